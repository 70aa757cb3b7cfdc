-- What is loaded fits, and is evaluated to the words of clock 0.
use Rattle.first_clocks.specs.ZeroRun.{row_fits, words_at_lem}
use Rattle.first_clocks.proofs.first_clock.Goals as goal

pub evaluate-requires-clause-inputs : goal.evaluate-requires-clause-inputs
evaluate-requires-clause-inputs c = (row_fits _ c.requires.formed 0 _ c.load_reset.ensures).0

pub evaluate-requires-clause-state : goal.evaluate-requires-clause-state
evaluate-requires-clause-state c = (row_fits _ c.requires.formed 0 _ c.load_reset.ensures).1

pub returns : goal.returns
returns c = words_at_lem _ c.requires.formed 0 _ c.load_reset.ensures c.evaluate.ensures
