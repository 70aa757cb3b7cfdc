-- The loop's invariant is a `Turn`, and that no table stands there before the first node. The measure is what is left of the file.
use Rattle.std.specs.Prelude.{◌≡◌, false, ℕ}
use Prim.Native.Nat.{◌-◌}
use lib.ListN.{length}
use Rattle.reader.specs.Fields.{table_stands}
use Rattle.opening.specs.Turn.{Turn}
use Rattle.opening.proofs.fill_nodes.Given as goal

abbrev pub invariant-loop-from : goal.invariant-loop-from
invariant-loop-from l = record { tables : ℕ; turn : Turn l.file l.net l.at tables l.n; first : l.n ≡ 0 → table_stands l.file l.at ≡ false }

abbrev pub decreases-loop-from : goal.decreases-loop-from
decreases-loop-from l = length l.file - l.at
