use Rattle.std.proofs.Common.{take}
use Rattle.writer.specs.Turn.{Turn}
use Rattle.writer.proofs.put_bytes.Given as goal

abbrev pub invariant-loop-i : goal.invariant-loop-i
invariant-loop-i l = Turn l.initial.out l.at (take l.i l.from) l.i l.next l.out
