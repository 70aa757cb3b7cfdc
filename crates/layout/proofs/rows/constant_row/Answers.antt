-- The words of the constant.
use Rattle.layout.specs.NewRow.{constant_row}
use Rattle.layout.proofs.rows.constant_row.Goals as goal

pub returns : goal.returns
returns c = constant_row c.requires c.args.value
