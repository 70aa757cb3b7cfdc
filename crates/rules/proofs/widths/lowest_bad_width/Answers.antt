use mathlib.Core.Path.{sym, ◌∙◌}
use native.Mathlib.Omega.{arith}
use Rattle.lists.proofs.SearchLaws.{lowest_here, lowest_past}
use Rattle.netlist.specs.Net.{size}
use Rattle.netlist.specs.Verdict.{bad_width}
use Rattle.rules.proofs.widths.lowest_bad_width.Goals as goal

pub returns-then-bad_width : goal.returns-then-bad_width
returns-then-bad_width c =
    let a = c.args in
    let N = a.net.now.net in
    lowest_here (size N) (bad_width N) c.loop-v.v c.loop-v.invariant (omega (arith, c.node_count-n.ensures.count, c.loop-v-test.true)) (sym c.bad_width.ensures ∙ c.if-bad_width.true)

pub returns : goal.returns
returns c =
    let a = c.args in
    let N = a.net.now.net in
    c.node_count-n.ensures.count ∙ lowest_past (size N) (bad_width N) (λ u h. c.loop-v.invariant u (omega (arith, h, c.node_count-n.ensures.count, c.loop-v-test.false)))
