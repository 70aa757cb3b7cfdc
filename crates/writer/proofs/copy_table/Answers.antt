-- The field as it came.
use native.Mathlib.Omega.{arith}
use Rattle.codec.specs.Bytes.{Bytes}
use Rattle.writer.specs.Written.{puts_as}
use Rattle.writer.specs.Copied.{table-size, table_copied}
use Rattle.writer.proofs.copy_table.Goals as goal

pub slice_bounds-put_bytes-end : goal.slice_bounds-put_bytes-end
slice_bounds-put_bytes-end c =
    let a = c.args in
    let b : Bytes a.file.now = λ i. omega (arith, c.type_inv.file i) in
    omega (arith, c.requires.table.inside, table-size a.file.now a.from c.requires.table b, c.table_length.ensures.length)

pub returns : goal.returns
returns c =
    let a = c.args in
    let b : Bytes a.file.now = λ i. omega (arith, c.type_inv.file i) in
    puts_as (table_copied a.file.now a.from c.requires.table b c.table_length.ensures.length) c.put_bytes.ensures
