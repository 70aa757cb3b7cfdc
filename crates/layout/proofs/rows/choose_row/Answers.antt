-- The words of the gate.
use Rattle.layout.specs.NewRow.{choose_row}
use Rattle.layout.proofs.rows.choose_row.Goals as goal

pub returns : goal.returns
returns c = choose_row c.requires c.args.sources
