-- The loop's invariant: the first k words of the line stand in its place, and what stands behind it is as it was.
use Prim.Native.Nat.{◌*◌}
use Rattle.schedule.proofs.Puts.{Puts}
use Rattle.schedule.proofs.lines.put_line.Given as goal

abbrev pub invariant-loop-k : goal.invariant-loop-k
invariant-loop-k l = Puts l.line l.initial.schedule l.schedule (8 * l.i) l.k
