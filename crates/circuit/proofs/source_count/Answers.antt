use mathlib.Core.Path.{◌∙◌}
use native.Mathlib.Omega.{arith}
use Rattle.netlist.specs.Net.{element_at}
use Rattle.netlist.proofs.NodeLaws.{few_operands}
use Rattle.circuit.specs.Circuit.{net_of}
use Rattle.circuit.proofs.CircuitLaws.{count_at}
use Rattle.circuit.proofs.source_count.Goals as goal

pub returns-clause-count : goal.returns-clause-count
returns-clause-count c =
    let a = c.args in
    let e = c.field_of.ensures.word ∙ count_at _ _ c.requires.circuit _ c.requires.node in
    e

pub returns-clause-few : goal.returns-clause-few
returns-clause-few c =
    let a = c.args in
    let e = c.field_of.ensures.word ∙ count_at _ _ c.requires.circuit _ c.requires.node in
    omega (arith, e, few_operands (element_at (net_of a.file.now a.net.now) a.v))
