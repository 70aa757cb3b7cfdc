use Rattle.std.proofs.Common.{◌<◌, ℕ, length, subst, ap, ◌∙◌, arith}
use Rattle.netlist.specs.Net.{size, element_at}
use Rattle.circuit.specs.Code.{table_or}
use Rattle.circuit.specs.Circuit.{nodes_of}
use Rattle.circuit.specs.Renumbering.{Retabled}
use Rattle.circuit.specs.Shown.{Shown}
use Rattle.circuit.proofs.CircuitLaws.{size_is}
use Rattle.trimming.proofs.Renumbering.{still_size, still_circuit, renumbering_none, renumbering_more, renumbering_done}
use Rattle.trimming.proofs.renumber.Goals as goal

pub loop-v-init : goal.loop-v-init
loop-v-init c = renumbering_none _ c.requires.circuit

pub of-requires-in-loop-v : goal.of-requires-in-loop-v
of-requires-in-loop-v c = still_circuit c.loop-v.invariant c.requires.circuit

pub table-requires : goal.table-requires
table-requires c =
    let s = c.args.file.now in
    let l = c.loop-v in
    omega (arith, ap (λ (h : Shown). size h.net) c.of-in-loop-v.ensures, size_is s l.net, still_size l.invariant, size_is s c.args.net.now, ap (λ (h : Shown). size h.net) c.of.ensures, c.node_count-v-end.ensures.count, c.loop-v-test.true)

pub put_table-requires-clause-node : goal.put_table-requires-clause-node
put_table-requires-clause-node c =
    omega (arith, still_size c.loop-v.invariant, size_is c.args.file.now c.args.net.now, ap (λ (h : Shown). size h.net) c.of.ensures, c.node_count-v-end.ensures.count, c.loop-v-test.true)

pub loop-v-preserved : goal.loop-v-preserved
loop-v-preserved c =
    let s = c.args.file.now in
    let l = c.loop-v in
    let r = c.table.result in
    let h : l.v < length (nodes_of c.args.net.now) = omega (arith, size_is s c.args.net.now, ap (λ (h : Shown). size h.net) c.of.ensures, c.node_count-v-end.ensures.count, c.loop-v-test.true) in
    renumbering_more l.invariant s r h
    (c.table.ensures.table ∙ ap (λ (h : Shown). table_or r (element_at h.net l.v)) c.of-in-loop-v.ensures)
    (subst (λ (k : ℕ). Retabled l.net l.v k c.put_table.new.net) c.at_or-k.ensures c.put_table.ensures)

pub returns : goal.returns
returns c =
    renumbering_done c.loop-v.invariant
    (omega (arith, size_is c.args.file.now c.args.net.now, ap (λ (h : Shown). size h.net) c.of.ensures, c.node_count-v-end.ensures.count, c.loop-v-test.false))
