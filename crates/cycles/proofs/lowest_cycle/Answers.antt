-- Where all nodes are placed none reaches itself; where some are left one does, and the search finds the lowest.
use Rattle.std.proofs.Common.{◌<◌, sym, ap, ◌∙◌, arith}
use Rattle.lists.specs.Lists.{lowest}
use Rattle.netlist.specs.Net.{Net, in_clock, size}
use Rattle.netlist.specs.Reach.{reaches_itself}
use Rattle.circuit.specs.Circuit.{net_of}
use Rattle.circuit.specs.Shown.{Shown}
use Rattle.cycles.specs.CycleLaws.{none_left, some_left}
use Rattle.cycles.proofs.lowest_cycle.Goals as goal

pub returns-then-placed-node_count-clause-lowest : goal.returns-then-placed-node_count-clause-lowest
returns-then-placed-node_count-clause-lowest c =
    let o = c.order_nodes-placed.ensures in
    let e = c.if-placed-node_count.true ∙ c.node_count.ensures.count ∙ ap (λ (h : Shown). size h.net) c.of-shown.ensures ∙ ap size o.net in
    e ∙ none_left in_clock (net_of c.args.file.now c.args.net.now) c.requires.sourced (o.outcome.full e)

pub returns-then-placed-node_count-clause-complete : goal.returns-then-placed-node_count-clause-complete
returns-then-placed-node_count-clause-complete c e = c.order_nodes-placed.ensures.outcome.full e

pub returns-clause-lowest : goal.returns-clause-lowest
returns-clause-lowest c =
    c.lowest_on_cycle.ensures ∙ ap (λ (h : Shown). lowest (size h.net) (reaches_itself in_clock h.net)) c.of-shown.ensures
    ∙ ap (λ (N : Net). lowest (size N) (reaches_itself in_clock N)) c.order_nodes-placed.ensures.net

pub returns-clause-complete : goal.returns-clause-complete
returns-clause-complete c q =
    let N = net_of c.args.file.now c.args.net.now in
    let o = c.order_nodes-placed.ensures in
    let n = c.node_count.ensures.count ∙ ap (λ (h : Shown). size h.net) c.of-shown.ensures ∙ ap size o.net in
    let short : c.order_nodes-placed.result < size N = omega (arith, o.outcome.few, c.if-placed-node_count.false, n) in
    absurd (some_left in_clock N c.requires.sourced (o.outcome.left short) (sym (returns-clause-lowest c) ∙ q))
