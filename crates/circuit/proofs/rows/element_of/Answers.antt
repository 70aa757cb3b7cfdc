-- The words of the row tell the element.
use Rattle.circuit.proofs.RowLaws.{read_coded, part_small, element_read_lem}
use Rattle.circuit.proofs.rows.element_of.Goals as goal

pub element_by-requires-clause-coded : goal.element_by-requires-clause-coded
element_by-requires-clause-coded c =
    let a = c.args in
    let code = c.code_of-code.ensures.code in
    let number = c.number_of-number.ensures.number in
    read_coded a.file.now a.net.now c.requires.circuit a.v c.requires.node code number

pub element_by-requires-clause-no_part : goal.element_by-requires-clause-no_part
element_by-requires-clause-no_part c =
    let a = c.args in
    let code = c.code_of-code.ensures.code in
    let number = c.number_of-number.ensures.number in
    part_small a.file.now a.net.now c.requires.circuit a.v c.requires.node code number

pub returns : goal.returns
returns c = element_read_lem _ _ c.requires.circuit c.args.v c.requires.node c.code_of-code.ensures.code c.number_of-number.ensures.number c.table_of-table.ensures.table c.element_by.ensures
