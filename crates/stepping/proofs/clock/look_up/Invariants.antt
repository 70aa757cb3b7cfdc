-- The loop's invariant: the lines before i are looked up. A run ends within the lines, so i stays a line's place.
use Prim.Native.Nat.{◌-◌, ◌≤◌}
use Rattle.stepping.specs.Looking.{Looked}
use Rattle.stepping.proofs.clock.look_up.Given as goal

abbrev pub invariant-loop-i : goal.invariant-loop-i
invariant-loop-i l = (l.from ≤ l.i) × (l.i ≤ 2048) × Looked l.net.net l.schedule l.from l.held l.initial.words l.words l.i

abbrev pub decreases-loop-i : goal.decreases-loop-i
decreases-loop-i l = 2048 - l.i
