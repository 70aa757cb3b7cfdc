use mathlib.Core.Path.{sym, ◌∙◌}
use native.Mathlib.Omega.{arith}
use Rattle.lists.proofs.SearchLaws.{lowest_here, lowest_past}
use Rattle.netlist.specs.Net.{size}
use Rattle.netlist.specs.Verdict.{unread}
use Rattle.rules.proofs.readers.lowest_unread.Goals as goal

pub returns-then-not_read : goal.returns-then-not_read
returns-then-not_read c =
    let a = c.args in
    let N = a.net.now.net in
    lowest_here (size N) (unread N) c.loop-v.v c.loop-v.invariant (omega (arith, c.node_count-n.ensures.count, c.loop-v-test.true)) (sym c.not_read.ensures ∙ c.if-not_read.true)

pub returns : goal.returns
returns c =
    let a = c.args in
    let N = a.net.now.net in
    c.node_count-n.ensures.count ∙ lowest_past (size N) (unread N) (λ u h. c.loop-v.invariant u (omega (arith, h, c.node_count-n.ensures.count, c.loop-v-test.false)))
