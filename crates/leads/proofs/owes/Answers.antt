-- An input port owes where its number is above the base.
use mathlib.Core.Path.{sym, ◌∙◌}
use Rattle.leads.specs.Debts.{owing_by}
use Rattle.leads.proofs.owes.Goals as goal

pub returns-then-is_input : goal.returns-then-is_input
unfolding owing_by
returns-then-is_input c = rw (sym c.is_input.ensures ∙ c.if-is_input.true)

pub returns-else-is_input : goal.returns-else-is_input
unfolding owing_by
returns-else-is_input c = rw (sym c.is_input.ensures ∙ c.if-is_input.false) c.if-is_input.false
