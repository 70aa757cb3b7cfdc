-- The loop's invariant: what the nodes passed read is marked, and so many tables are left.
use mathlib.Core.Path.{◌≡◌}
use lib.ListN.{length}
use Rattle.rules.proofs.TableLaws.{Marking}
use Rattle.rules.proofs.tables.mark_tables.Given as goal

abbrev pub invariant-loop-v : goal.invariant-loop-v
invariant-loop-v l = (length l.marks ≡ length l.initial.marks) × Marking l.net.net l.marks l.v l.left
