use native.Mathlib.Omega.{arith}
use Rattle.circuit.proofs.CircuitLaws.{table_head}
use Rattle.circuit.proofs.word_width.Goals as goal

pub bounds-file-net : goal.bounds-file-net
bounds-file-net c = let a = c.args in omega (arith, (table_head a.file.now a.net.now c.requires a.k (omega (arith, c.if-k-table_count.true, c.table_count.ensures.places))).inside)

pub returns-then-k-table_count : goal.returns-then-k-table_count
returns-then-k-table_count c = let a = c.args in (table_head a.file.now a.net.now c.requires a.k (omega (arith, c.if-k-table_count.true, c.table_count.ensures.places))).wide
