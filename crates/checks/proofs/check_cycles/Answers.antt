-- The two checks in their order; what the first leaves in the order stays.
use Rattle.std.proofs.Common.{ap, ◌∙◌, arith}
use Rattle.lists.specs.Lists.{lowest}
use Rattle.lists.proofs.SearchLaws.{lowest_bound}
use Rattle.netlist.specs.Net.{in_clock, in_registers, Net, size}
use Rattle.netlist.specs.Reach.{reaches_itself}
use Rattle.circuit.specs.Circuit.{net_of}
use Rattle.circuit.specs.Shown.{Shown}
use Rattle.checks.proofs.Stages.{nine_refuses, ten_refuses, all_pass}
use Rattle.checks.proofs.check_cycles.Goals as goal

pub returns-then-loop_node-n-clause-verdict : goal.returns-then-loop_node-n-clause-verdict
returns-then-loop_node-n-clause-verdict c =
    let N = net_of c.args.file.now c.args.net.now in
    let k = c.lowest_cycle-loop_node.ensures in
    let n = c.node_count-n.ensures.count ∙ ap (λ (h : Shown). size h.net) c.of-shown.ensures ∙ ap size k.net in
    nine_refuses N k.lowest (omega (arith, c.if-loop_node-n.true, n))

pub returns-then-ring_node-n-clause-verdict : goal.returns-then-ring_node-n-clause-verdict
returns-then-ring_node-n-clause-verdict c =
    let N = net_of c.args.file.now c.args.net.now in
    let k = c.lowest_cycle-loop_node.ensures in
    let e = ap (λ (h : Shown). h.net) c.of-shown.ensures ∙ k.net in
    let n = c.node_count-n.ensures.count ∙ ap size e in
    let r = c.lowest_ring-ring_node.ensures ∙ ap (λ (M : Net). lowest (size M) (reaches_itself in_registers M)) e in
    ten_refuses N k.lowest r (omega (arith, c.if-loop_node-n.false, n)) (omega (arith, c.if-ring_node-n.true, n))

pub returns-clause-verdict : goal.returns-clause-verdict
returns-clause-verdict c =
    let N = net_of c.args.file.now c.args.net.now in
    let k = c.lowest_cycle-loop_node.ensures in
    let e = ap (λ (h : Shown). h.net) c.of-shown.ensures ∙ k.net in
    let n = c.node_count-n.ensures.count ∙ ap size e in
    let r = c.lowest_ring-ring_node.ensures ∙ ap (λ (M : Net). lowest (size M) (reaches_itself in_registers M)) e in
    all_pass N k.lowest r (omega (arith, c.if-loop_node-n.false, n)) (omega (arith, c.if-ring_node-n.false, n))

pub returns-clause-complete : goal.returns-clause-complete
returns-clause-complete c =
    let N = net_of c.args.file.now c.args.net.now in
    let k = c.lowest_cycle-loop_node.ensures in
    let n = c.node_count-n.ensures.count ∙ ap (λ (h : Shown). size h.net) c.of-shown.ensures ∙ ap size k.net in
    k.complete (omega (arith, c.if-loop_node-n.false, n, k.lowest, lowest_bound (size N) (reaches_itself in_clock N)))
