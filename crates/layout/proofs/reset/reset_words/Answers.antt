-- The entries' words are copied, and those of the registers and the constants are taken.
use Rattle.layout.specs.PlannedLaws.{few_entries, late_of_nodes, reset_planned}
use Rattle.layout.proofs.reset.reset_words.Goals as goal

pub entry_words-requires : goal.entry_words-requires
entry_words-requires c = let p = c.requires in few_entries c.args.plan.now p.timed p.steering p.few c.told-plan

pub first_words-requires-clause-nodes : goal.first_words-requires-clause-nodes
first_words-requires-clause-nodes c = let p = c.requires in late_of_nodes c.args.plan.now p.timed p.steering p.few c.told-plan

pub returns : goal.returns
returns c = let p = c.requires in reset_planned c.args.plan.now p.timed p.steering p.few c.told-plan c.entry_words.ensures c.first_words.ensures
