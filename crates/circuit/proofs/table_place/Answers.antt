use mathlib.Core.Path.{sym}
use native.Mathlib.Omega.{arith}
use Rattle.circuit.proofs.CircuitLaws.{tables_of_lem, table_of, table_stands_lem}
use Rattle.circuit.proofs.table_place.Goals as goal

pub overflow_add-result : goal.overflow_add-result
overflow_add-result c =
    let a = c.args in
    omega (arith, c.requires.table, tables_of_lem a.file.now a.net.now, c.requires.circuit.formed.few_tables)

pub offset_bounds-net-k : goal.offset_bounds-net-k
offset_bounds-net-k c =
    let a = c.args in
    omega (arith, c.requires.table, tables_of_lem a.file.now a.net.now, c.requires.circuit.formed.few_tables)

pub bounds-net-k : goal.bounds-net-k
bounds-net-k c =
    let a = c.args in
    omega (arith, c.requires.table, tables_of_lem a.file.now a.net.now, c.requires.circuit.formed.few_tables, c.requires.circuit.formed.room)

pub returns-clause-stands : goal.returns-clause-stands
returns-clause-stands c = table_stands_lem _ _ c.requires.circuit c.args.k (omega (arith, c.requires.table, tables_of_lem c.args.file.now c.args.net.now))

pub returns-clause-table : goal.returns-clause-table
returns-clause-table c = sym (table_of c.args.file.now c.args.net.now c.args.k (omega (arith, c.requires.table, tables_of_lem c.args.file.now c.args.net.now)))
