-- The length that stands in the file, past tag and length.
use native.Mathlib.Omega.{arith}
use Rattle.writer.specs.Copied.{table-size}
use Rattle.writer.proofs.table_length.Goals as goal

pub returns-clause-length : goal.returns-clause-length
returns-clause-length c =
    let a = c.args in
    omega (arith, table-size a.file.now a.from c.requires (λ i. omega (arith, c.type_inv.file i)), c.word_at.ensures)
