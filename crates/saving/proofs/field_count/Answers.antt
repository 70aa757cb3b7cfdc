-- The head and the end besides.
use native.Mathlib.Omega.{arith}
use Rattle.netlist.proofs.Offsets.{fields_count}
use Rattle.saving.proofs.field_count.Goals as goal

pub returns-clause-length : goal.returns-clause-length
returns-clause-length c = omega (arith, fields_count c.args.net.now.net, c.table_count.ensures.count, c.node_count.ensures.count)
