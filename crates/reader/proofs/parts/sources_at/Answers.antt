-- The sources stand where the code says.
use mathlib.Core.Path.{◌∙◌}
use native.Mathlib.Omega.{arith}
use Rattle.netlist.specs.File.{node_in}
use Rattle.netlist.proofs.NodeLaws.{few_operands}
use Rattle.reader.proofs.InFile as file
use Rattle.reader.proofs.parts.sources_at.Goals as goal

pub sources_from-requires-clause-room : goal.sources_from-requires-clause-room
sources_from-requires-clause-room c =
    let p = c.requires in
    omega (arith, p.node.inside, file.sources_fit c.args.file.now c.args.at p.node _ _ (c.first_by_code.ensures.first (node_in c.args.file.now c.args.at).element p.code) p.count)

pub sources_from-requires-clause-few : goal.sources_from-requires-clause-few
sources_from-requires-clause-few c = omega (arith, c.requires.count, few_operands (node_in c.args.file.now c.args.at).element)

pub returns : goal.returns
returns c =
    let s = c.args.file.now in
    let at = c.args.at in
    let p = c.requires in
    c.sources_from.ensures ∙ file.sources_here s at p.node _ _ (c.first_by_code.ensures.first (node_in s at).element p.code) p.count
