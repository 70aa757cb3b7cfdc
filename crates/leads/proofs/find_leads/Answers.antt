-- The numbers are searched; then 11, and 12, in that order; then the numbers become the timing's.
use mathlib.Core.Path.{ap, ◌∙◌}
use Prim.Native.Nat.{ℕ, ◌≤◌}
use Rattle.std.proofs.lemmas.Result.{err_from_is_err_and}
use Rattle.std.proofs.Math.ListN.{length, length-append, length-drop}
use native.Mathlib.Omega.{arith}
use Rattle.std.specs.Result.{is_ok}
use Rattle.netlist.specs.Net.{size}
use Rattle.retiming.specs.Modes.{mode_timing}
use Rattle.leads.proofs.Settling.{now_settled, says_11, ports_say, leads_front}
use Rattle.leads.proofs.find_leads.Goals as goal

pub returns-in_err-search_leads-clause-verdict : goal.returns-in_err-search_leads-clause-verdict
returns-in_err-search_leads-clause-verdict c =
    let p = err_from_is_err_and c.from_residual.result c.from_residual.ensures.1 in
    rw (p.1, p.2, c.in_err-search_leads.ensures.debt) (says_11 _ _ c.requires.sourced c.search_leads.ensures.outcome (ap is_ok c.in_err-search_leads.was))

pub returns-in_err-check_ports-clause-verdict : goal.returns-in_err-check_ports-clause-verdict
returns-in_err-check_ports-clause-verdict c =
    let p = err_from_is_err_and c.from_residual-in_err-check_ports.result c.from_residual-in_err-check_ports.ensures.1 in
    rw (p.1, p.2) (c.in_err-check_ports.ensures ∙ ports_say _ _ c.requires.sourced c.search_leads.ensures.outcome (ap is_ok c.in_ok-search_leads.was))

pub finish-requires-clause-no_debt : goal.finish-requires-clause-no_debt
finish-requires-clause-no_debt c = (now_settled _ _ c.requires.sourced c.search_leads.ensures.outcome (ap is_ok c.in_ok-search_leads.was)).0

pub finish-requires-clause-found : goal.finish-requires-clause-found
finish-requires-clause-found c = (now_settled _ _ c.requires.sourced c.search_leads.ensures.outcome (ap is_ok c.in_ok-search_leads.was)).1

pub returns-clause-verdict : goal.returns-clause-verdict
returns-clause-verdict c = c.in_ok-check_ports.ensures ∙ ports_say _ _ c.requires.sourced c.search_leads.ensures.outcome (ap is_ok c.in_ok-search_leads.was)

-- the numbers stand first in the area
pub returns-clause-leads : goal.returns-clause-leads
returns-clause-leads c =
    let N = c.args.net.now.net in
    let room : size N ≤ length c.finish.new.leads = omega (arith, length-append {A = ℕ}, length-drop {A = ℕ}) in
    leads_front N (mode_timing c.args.mode N) c.finish.new.leads _ room c.finish.ensures
