use mathlib.Core.Path.{ap, ◌∙◌}
use Prim.Native.Nat.{ℕ, ◌+◌}
use native.Mathlib.Omega.{arith}
use lib.ListN.{take, set, length-set}
use Rattle.lists.specs.Lists.{one}
use Rattle.lists.proofs.SelectLaws.{list_more}
use Rattle.evaluate.specs.Rows.{row_test}
use Rattle.evaluate.proofs.Counted.{counted_one, counted_few}
use Rattle.evaluate.proofs.lent.row_members.Goals as goal

pub loop-v-preserved : goal.loop-v-preserved
loop-v-preserved c =
    let a = c.args in
    let t = c.loop-v in (
      omega (arith, counted_few c.in_row.result),
      length-set t.members t.count t.v ∙ t.invariant.1,
      ap (λ (j : ℕ). take (t.count + j) (set t.members t.count t.v)) (counted_one c.in_row.result ∙ ap one c.in_row.ensures)
          ∙ list_more (row_test a.row a.net.now.net) t.members t.count t.v (omega arith) t.invariant.2,
    )
