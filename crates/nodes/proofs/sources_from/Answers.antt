-- Three sources, each read or 0.
use mathlib.Core.List.{[], ◌∷◌}
use Rattle.netlist.specs.NodeField.{sources_from}
use Rattle.nodes.proofs.sources_from.Goals as goal

pub returns : goal.returns
unfolding sources_from
returns c = λ i. c.word_if-first.ensures i ∷ c.word_if-second.ensures i ∷ c.word_if-third.ensures i ∷ []
