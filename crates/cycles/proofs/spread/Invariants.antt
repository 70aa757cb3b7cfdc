-- The loop's invariant: a round over the nodes before u.
use Rattle.order.specs.Order.{class_of}
use Rattle.cycles.specs.Spread.{ReachedPass}
use Rattle.cycles.proofs.spread.Given as goal

abbrev pub invariant-loop-u : goal.invariant-loop-u
invariant-loop-u l = ReachedPass (class_of l.steps) l.net.net l.s l.initial.marks l.marks l.start l.k l.u
