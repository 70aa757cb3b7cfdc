-- The loop's invariant: the first i of the order are settled.
use Rattle.evaluate.specs.Settling.{Settling}
use Rattle.evaluate.proofs.evaluate_all.Given as goal

abbrev pub invariant-loop-i : goal.invariant-loop-i
invariant-loop-i l = Settling l.net.net l.net.order l.initial.words l.words l.i
