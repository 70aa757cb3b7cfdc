-- With a late start, at output ports.
use mathlib.Core.Path.{sym, ap, ◌∙◌}
use Rattle.retiming.specs.LateLeads.{late_ends, at_output}
use Rattle.retiming.specs.declared.Mode.{Mode}
use Rattle.retiming.specs.Modes.{mode_ends}
use Rattle.leads.proofs.modes.may_end.Goals as goal

pub returns-in-Late : goal.returns-in-Late
unfolding late_ends at_output
returns-in-Late c = c.is_output.ensures ∙ ap (λ (m : Mode). mode_ends m c.args.net.now.net c.args.v) (sym c.in-Late.is)
