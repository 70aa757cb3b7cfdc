-- The loop's invariant: what is marked is reached.
use Prim.Native.Nat.{◌≤◌}
use Rattle.order.specs.Order.{class_of}
use Rattle.cycles.specs.Spread.{Reached}
use Rattle.cycles.proofs.spread_by.Given as goal

abbrev pub invariant-loop-i : goal.invariant-loop-i
invariant-loop-i l = (l.start ≤ l.k) × Reached (class_of l.steps) l.net.net l.s l.marks l.k
