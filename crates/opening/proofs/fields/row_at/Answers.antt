-- Its words are those of the node.
use Prim.Native.Nat.{◌<◌}
use Rattle.netlist.specs.File.{node_in}
use Rattle.circuit.proofs.RowLaws.{row_fits, row_node_lem}
use borrow.Author.Rules.{rules}
use Rattle.opening.proofs.fields.row_at.Goals as goal

pub returns : goal.returns
returns c =
    let x = node_in c.args.file.now c.args.at in
    let code = c.code_at-code.ensures.code in
    let count = c.count_by_code-count.ensures.count x.element code in
    let sources = c.sources_at-sources.ensures in
    let held = c.held_at-held.ensures in
    let width = c.width_at-width.ensures in
    let w : c.width_at-width.result < 256 = search rules in
    record { fits = row_fits x 0 0 width sources code count held.0 held.1 w held.2 held.3; node = row_node_lem x 0 0 width sources code count held.0 held.1 }
