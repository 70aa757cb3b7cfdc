use Prim.Native.Nat.{◌*◌}
use Rattle.netlist.specs.NodeField.{source_bytes}
use Rattle.writer.specs.Turn.{Turn}
use Rattle.writer.proofs.put_sources.Given as goal

abbrev pub invariant-loop-i : goal.invariant-loop-i
invariant-loop-i l = Turn l.initial.out l.at (source_bytes l.i l.sources) (2 * l.i) l.next l.out
