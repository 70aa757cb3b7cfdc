-- The checks in their order.
use Rattle.std.proofs.Common.{◌∙◌, sym, ap, subst, arith}
use Rattle.netlist.specs.Net.{Sourced}
use Rattle.netlist.specs.Verdict.{verdict, reader_verdict}
use Rattle.circuit.specs.Shown.{Shown}
use Rattle.checks.specs.Open.{from_nine}
use Rattle.rules.specs.Marks.{no_marks}
use Rattle.checks.proofs.Stages.{six_refuses, seven_refuses, eight_refuses, seventeen_refuses, to_nine, sourced, tables_there}
use Rattle.checks.proofs.check_net.Goals as goal

pub lowest_bad_source-source-requires : goal.lowest_bad_source-source-requires
lowest_bad_source-source-requires c =
    let N = c.of-shown.result.net in
    no_marks N 1024 (omega (arith, c.node_count-n.ensures.count, c.node_count-n.ensures.few))

pub returns-then-source-n-clause-verdict : goal.returns-then-source-n-clause-verdict
returns-then-source-n-clause-verdict c =
    let N = c.of-shown.result.net in
    let n = c.node_count-n.ensures.count in
    six_refuses N c.lowest_bad_source-source.ensures.lowest (omega (arith, c.if-source-n.true, n)) ∙ ap (λ (h : Shown). reader_verdict h.net) c.of-shown.ensures

pub returns-then-width-n-clause-verdict : goal.returns-then-width-n-clause-verdict
returns-then-width-n-clause-verdict c =
    let N = c.of-shown.result.net in
    let n = c.node_count-n.ensures.count in
    seven_refuses N c.lowest_bad_source-source.ensures.lowest c.lowest_bad_width-width.ensures (omega (arith, c.if-source-n.false, n)) (omega (arith, c.if-width-n.true, n)) ∙ ap (λ (h : Shown). reader_verdict h.net) c.of-shown.ensures

pub returns-then-unread-n-clause-verdict : goal.returns-then-unread-n-clause-verdict
returns-then-unread-n-clause-verdict c =
    let N = c.of-shown.result.net in
    let n = c.node_count-n.ensures.count in
    eight_refuses N c.lowest_bad_source-source.ensures.lowest c.lowest_bad_width-width.ensures c.lowest_unread-unread.ensures (omega (arith, c.if-source-n.false, n)) (omega (arith, c.if-width-n.false, n)) (omega (arith, c.if-unread-n.true, n)) ∙ ap (λ (h : Shown). reader_verdict h.net) c.of-shown.ensures

pub lowest_unread_table-table-requires : goal.lowest_unread_table-table-requires
lowest_unread_table-table-requires c =
    let N = c.of-shown.result.net in
    tables_there N c.lowest_bad_source-source.ensures.lowest (omega (arith, c.if-source-n.false, c.node_count-n.ensures.count))

pub returns-then-table-table_count-clause-verdict : goal.returns-then-table-table_count-clause-verdict
returns-then-table-table_count-clause-verdict c =
    let N = c.of-shown.result.net in
    let n = c.node_count-n.ensures.count in
    seventeen_refuses N c.lowest_bad_source-source.ensures.lowest c.lowest_bad_width-width.ensures c.lowest_unread-unread.ensures c.lowest_unread_table-table.ensures (omega (arith, c.if-source-n.false, n)) (omega (arith, c.if-width-n.false, n)) (omega (arith, c.if-unread-n.false, n)) (omega (arith, c.if-table-table_count.true, c.table_count.ensures.count)) ∙ ap (λ (h : Shown). reader_verdict h.net) c.of-shown.ensures

pub check_cycles-requires-clause-sourced : goal.check_cycles-requires-clause-sourced
check_cycles-requires-clause-sourced c =
    let N = c.of-shown.result.net in
    subst (λ (h : Shown). Sourced h.net) c.of-shown.ensures (sourced N c.lowest_bad_source-source.ensures.lowest (omega (arith, c.if-source-n.false, c.node_count-n.ensures.count)))

pub returns-clause-verdict : goal.returns-clause-verdict
returns-clause-verdict c =
    let N = c.of-shown.result.net in
    let n = c.node_count-n.ensures.count in
    let e = c.of-shown.ensures in
    c.check_cycles.ensures.verdict ∙ ap (λ (h : Shown). verdict (from_nine h.net)) (sym e) ∙ to_nine N c.lowest_bad_source-source.ensures.lowest c.lowest_bad_width-width.ensures c.lowest_unread-unread.ensures c.lowest_unread_table-table.ensures (omega (arith, c.if-source-n.false, n)) (omega (arith, c.if-width-n.false, n)) (omega (arith, c.if-unread-n.false, n)) (omega (arith, c.if-table-table_count.false, c.table_count.ensures.count)) ∙ ap (λ (h : Shown). reader_verdict h.net) e
