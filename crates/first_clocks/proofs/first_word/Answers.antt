-- A register or a clocked ROM begins with its reset word; what holds no word and is loaded is an input port.
use mathlib.Core.Path.{sym, ◌∙◌}
use Rattle.first_clocks.specs.ZeroRun.{first_none, first_read}
use Rattle.first_clocks.proofs.first_word.Goals as goal

pub returns-then-in_row : goal.returns-then-in_row
returns-then-in_row c = first_read _ c.requires.formed c.args.v c.requires.node (sym c.in_row.ensures ∙ c.if-in_row.true) c.number.ensures.number

pub returns-else-in_row : goal.returns-else-in_row
returns-else-in_row c = first_none _ c.requires.formed c.args.v c.requires.node (sym c.in_row.ensures ∙ c.if-in_row.false)
