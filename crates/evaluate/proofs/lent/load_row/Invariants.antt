-- The loop's invariant: the words of the members passed are loaded, whatever row they are the members of.
use mathlib.Core.Path.{◌≡◌}
use lib.ListN.{length}
use Rattle.evaluate.proofs.Rows.{Loads}
use Rattle.evaluate.proofs.lent.load_row.Given as goal

abbrev pub invariant-loop-i : goal.invariant-loop-i
invariant-loop-i l = (length l.words ≡ length l.initial.words) × Loads l.net.net l.members l.bytes l.initial.words l.words l.i
