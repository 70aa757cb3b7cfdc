use mathlib.Core.Path.{◌∙◌}
use native.Mathlib.Omega.{arith}
use Rattle.circuit.proofs.CircuitLaws.{row_of, width_at_lem}
use Rattle.circuit.proofs.width_of.Goals as goal

pub returns-clause-width : goal.returns-clause-width
returns-clause-width c = let w = (row_of _ _ c.requires.circuit _ c.requires.node).width in c.field_of.ensures.word ∙ width_at_lem _ _ c.requires.circuit _ c.requires.node

pub returns-clause-few : goal.returns-clause-few
returns-clause-few c = let w = (row_of _ _ c.requires.circuit _ c.requires.node).width in omega (arith, c.field_of.ensures.word, w)
