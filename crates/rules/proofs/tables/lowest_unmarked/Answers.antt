use mathlib.Core.Path.{◌∙◌}
use native.Mathlib.Omega.{arith}
use lib.ListN.{length}
use Rattle.lists.proofs.SearchLaws.{passed-more, lowest_here, lowest_past}
use Rattle.netlist.specs.Verdict.{unread_table}
use Rattle.rules.proofs.TableLaws.{table-marked, table_unmarked}
use Rattle.rules.proofs.tables.lowest_unmarked.Goals as goal

pub returns-then-marks-m-eq0 : goal.returns-then-marks-m-eq0
returns-then-marks-m-eq0 c =
    let a = c.args in
    let N = a.net.now.net in
    let t = c.loop-m in
    lowest_here (length N.tables) (unread_table N) t.m t.invariant (omega (arith, c.table_count-n.ensures.count, c.loop-m-test.true)) (table_unmarked N c.requires (omega (arith, c.table_count-n.ensures.few, c.loop-m-test.true)) c.if-marks-m-eq0.true)

pub loop-m-preserved : goal.loop-m-preserved
loop-m-preserved c =
    let a = c.args in
    let N = a.net.now.net in
    let t = c.loop-m in
    (passed-more (unread_table N) t.m t.invariant (table-marked N c.requires (omega (arith, c.table_count-n.ensures.few, c.loop-m-test.true)) c.if-marks-m-eq0.false))

pub returns : goal.returns
returns c =
    let a = c.args in
    let N = a.net.now.net in
    c.table_count-n.ensures.count ∙ lowest_past (length N.tables) (unread_table N) (λ u h. c.loop-m.invariant u (omega (arith, h, c.table_count-n.ensures.count, c.loop-m-test.false)))
