-- The loop's invariant: the first numbers of the work area are the members among the nodes passed.
use mathlib.Core.Path.{◌≡◌}
use Prim.Native.Nat.{◌≤◌}
use lib.ListN.{length, take}
use Rattle.lists.specs.Lists.{select}
use Rattle.evaluate.specs.Rows.{row_test}
use Rattle.evaluate.proofs.lent.row_members.Given as goal

abbrev pub invariant-loop-v : goal.invariant-loop-v
invariant-loop-v l = (l.count ≤ l.v) × (length l.members ≡ length l.initial.members) × (take l.count l.members ≡ select (row_test l.row l.net.net) (λ u. u) l.v)
