use mathlib.Core.Path.{◌∙◌}
use native.Mathlib.Omega.{arith}
use Rattle.circuit.proofs.CodeLaws.{code_below}
use Rattle.circuit.proofs.CircuitLaws.{code_at, row_of}
use Rattle.circuit.proofs.code_of.Goals as goal

pub returns-clause-code : goal.returns-clause-code
returns-clause-code c = let k = code_at _ _ c.requires.circuit _ c.requires.node in c.field_of.ensures.word ∙ k

pub returns-clause-few : goal.returns-clause-few
returns-clause-few c = let k = code_at _ _ c.requires.circuit _ c.requires.node in omega (arith, c.field_of.ensures.word, code_below (row_of _ _ c.requires.circuit _ c.requires.node).coded)
