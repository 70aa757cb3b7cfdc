-- The loop's invariant: the lines before i are done.
use Prim.Native.Nat.{◌-◌, ◌≤◌}
use Rattle.stepping.specs.Step.{Stepped}
use Rattle.stepping.proofs.step_lines.Given as goal

abbrev pub invariant-loop-i : goal.invariant-loop-i
invariant-loop-i l = (l.initial.i ≤ l.i) × (l.i ≤ l.sizes.lines) × Stepped l.net.net l.schedule l.initial.i l.i l.initial.words l.words

abbrev pub decreases-loop-i : goal.decreases-loop-i
decreases-loop-i l = l.sizes.lines - l.i
