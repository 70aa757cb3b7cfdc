-- The checks of the late start: the refusals 11 to 13 of a netlist that the reader takes, each with its place, in checking order: document 02, T-05. "In this mode 11
-- counts only closed walks that can reach an output, 12 only walks from an input port to an output port." Assumes nothing.
use Rattle.std.specs.Prelude.{List, [], ◌∷◌}
use Rattle.netlist.specs.Net.{Net, size}
use Rattle.netlist.specs.Verdict.{Verdict, Stage, at_lowest, of_whole, verdict}
use Rattle.retiming.specs.LateLeads.{late_ends, closed_debt_to, owing_port_to}
use Rattle.retiming.specs.LateRewrite.{late_started}
use Rattle.retiming.specs.Debt.{grown}

unfoldable pub late_stages : Net → List Stage
late_stages N = of_whole 11 (λ v. closed_debt_to N (late_ends N)) ∷ at_lowest 12 (size N) (owing_port_to N (late_ends N)) ∷ of_whole 13 (λ v. grown (late_started N)) ∷ []

unfoldable pub late_verdict : Net → Verdict
late_verdict N = verdict (late_stages N)
