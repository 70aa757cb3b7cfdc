use mathlib.Core.Path.{◌∙◌}
use Rattle.circuit.proofs.CircuitLaws.{source_at}
use Rattle.circuit.proofs.source_of.Goals as goal

pub returns-clause-source : goal.returns-clause-source
returns-clause-source c = c.field_of.ensures.word ∙ source_at _ _ c.requires.circuit _ c.requires.node _ c.requires.place

pub returns-clause-few : goal.returns-clause-few
returns-clause-few c = c.field_of.ensures.few
