-- The code is a gate's operation past the kinds, or the kind.
use Rattle.std.proofs.Common.{arith}
use Rattle.netlist.specs.File.{node_in}
use Rattle.circuit.proofs.CodeLaws.{coded, code_below}
use Rattle.reader.proofs.InFile as file
use Rattle.reader.proofs.parts.code_at.Goals as goal

pub bounds-file-at : goal.bounds-file-at
bounds-file-at c = omega (arith, c.requires.inside, file.long c.args.file.now c.args.at c.requires)

pub bounds-file-at-then-kind : goal.bounds-file-at-then-kind
bounds-file-at-then-kind c = file.operation_inside c.args.file.now c.args.at c.requires c.if-kind.true

pub returns-then-kind-clause-code : goal.returns-then-kind-clause-code
returns-then-kind-clause-code c = file.gate_told c.args.file.now c.args.at c.requires c.if-kind.true

pub returns-then-kind-clause-few : goal.returns-then-kind-clause-few
returns-then-kind-clause-few c = omega (arith, file.gate_told c.args.file.now c.args.at c.requires c.if-kind.true, code_below (coded (node_in c.args.file.now c.args.at).element))

pub returns-else-kind-clause-code : goal.returns-else-kind-clause-code
returns-else-kind-clause-code c = file.kind_told c.args.file.now c.args.at c.requires c.if-kind.false

pub returns-else-kind-clause-few : goal.returns-else-kind-clause-few
returns-else-kind-clause-few c = omega (arith, file.kind_told c.args.file.now c.args.at c.requires c.if-kind.false, code_below (coded (node_in c.args.file.now c.args.at).element))
