-- The words are those that the wires' area asks for.
use Rattle.plan.specs.PlanLaws.{clocks_of_nodes}
use Rattle.plan.proofs.copied_words.Goals as goal

pub first_words-requires-clause-nodes : goal.first_words-requires-clause-nodes
first_words-requires-clause-nodes c = clocks_of_nodes c.args.wires.now c.requires.timed c.requires.entered c.told-wires
