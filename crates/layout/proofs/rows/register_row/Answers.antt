-- The words of the register.
use Rattle.layout.specs.NewRow.{register_row}
use Rattle.layout.proofs.rows.register_row.Goals as goal

pub returns : goal.returns
returns c = register_row c.requires c.args.word c.args.from
