-- The loop's invariant: the lines before i are done.
use Prim.Native.Nat.{◌≤◌}
use Rattle.stepping.specs.Step.{Stepped}
use Rattle.stepping.proofs.run_of.Given as goal

abbrev pub invariant-loop-i : goal.invariant-loop-i
invariant-loop-i g l = (l.from ≤ l.i) × Stepped l.net.net l.schedule l.from l.i l.initial.words l.words
