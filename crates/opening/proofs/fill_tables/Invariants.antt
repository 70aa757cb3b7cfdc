-- The loop's invariant is a `Turn` before any node: the definition's walk from here on gives the whole answer, and the circuit shows what came before.
-- The measure is what is left of the file.
use Prim.Native.Nat.{◌-◌}
use lib.ListN.{length}
use Rattle.opening.specs.Turn.{Turn}
use Rattle.opening.proofs.fill_tables.Given as goal

abbrev pub invariant-loop-at : goal.invariant-loop-at
invariant-loop-at l = Turn l.file l.net l.at l.t 0

abbrev pub decreases-loop-at : goal.decreases-loop-at
decreases-loop-at l = length l.file - l.at
