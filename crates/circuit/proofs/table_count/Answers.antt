use mathlib.Core.Path.{sym, ◌∙◌}
use native.Mathlib.Omega.{arith}
use Rattle.circuit.proofs.CircuitLaws.{size-tables, tables_of_lem}
use Rattle.circuit.proofs.table_count.Goals as goal

pub returns-clause-places : goal.returns-clause-places
returns-clause-places c = sym (size-tables c.args.net.now)

pub returns-clause-count : goal.returns-clause-count
returns-clause-count c = sym (size-tables c.args.net.now) ∙ sym (tables_of_lem c.args.file.now c.args.net.now)

pub returns-clause-few : goal.returns-clause-few
returns-clause-few c = omega (arith, size-tables c.args.net.now, c.requires.formed.few_tables)
