use mathlib.Core.Path.{sym, ap, ◌∙◌}
use Prim.Native.Nat.{ℕ}
use native.Mathlib.Omega.{arith}
use Rattle.netlist.specs.Net.{element_at}
use Rattle.circuit.specs.Circuit.{net_of}
use Rattle.circuit.specs.Code.{table_or}
use Rattle.circuit.proofs.CircuitLaws.{row_of, table_at}
use Rattle.circuit.proofs.table_of.Goals as goal

pub returns-clause-table : goal.returns-clause-table
returns-clause-table c = let a = c.args in let e = c.field_of.ensures.word in e ∙ table_at a.file.now a.net.now c.requires.circuit a.v c.requires.node ∙ ap (λ (x : ℕ). table_or x (element_at (net_of a.file.now a.net.now) a.v)) (sym e)

pub returns-clause-few : goal.returns-clause-few
returns-clause-few c = let a = c.args in let e = c.field_of.ensures.word in omega (arith, e, (row_of a.file.now a.net.now c.requires.circuit a.v c.requires.node).table)
