-- The fields of the first tables are counted.
use native.Mathlib.Omega.{arith}
use Rattle.netlist.specs.Net.{no_table}
use Rattle.netlist.specs.File.{table_bytes, table_in}
use mathlib.Core.Path.{ap, ◌∙◌}
use mathlib.Core.List.{List}
use Prim.Native.Nat.{ℕ}
use Rattle.saving.specs.Firsts.{summing_none, summing_more, summing_done}
use Rattle.saving.proofs.tables_length.Goals as goal

pub loop-k-init : goal.loop-k-init
loop-k-init c =
    let a = c.args in
    summing_none table_bytes a.net.now.net.tables 65538

pub loop-k-preserved : goal.loop-k-preserved
loop-k-preserved c =
    let t = c.loop-k.invariant in
    let n = c.table_length-sum.ensures in
    summing_more t no_table (omega (arith, c.loop-k-test.true, c.table_count-n.ensures.count)) (ap (λ (s : List ℕ). table_in s c.table_place.result) c.file.ensures ∙ c.table_place.ensures.table) (omega (arith, n.length)) (omega (arith, t.small, n.few))

pub returns-clause-length : goal.returns-clause-length
returns-clause-length c =
    let t = c.loop-k.invariant in
    let n = c.table_count-n.ensures in
    summing_done t (omega (arith, c.loop-k-test.false, n.count))
