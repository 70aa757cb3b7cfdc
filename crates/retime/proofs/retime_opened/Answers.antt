-- 11 and 12 by the leads, else onward.
use mathlib.Core.Path.{◌∙◌}
use Rattle.std.proofs.lemmas.Result.{err_from_is_err_and}
use Rattle.retime.proofs.LayingLaws.{debts_say, then_13, no_closed_debt, new_is, now_timed}
use Rattle.retime.proofs.retime_opened.Goals as goal

pub returns-in_err-find_leads-clause-verdict : goal.returns-in_err-find_leads-clause-verdict
returns-in_err-find_leads-clause-verdict c =
    let p = err_from_is_err_and c.from_residual.result c.from_residual.ensures.1 in
    rw (p.1, p.2) (debts_say c.args.mode c.args.net.now.net c.in_err-find_leads.ensures.verdict)

pub retime_timed-requires-clause-timed : goal.retime_timed-requires-clause-timed
retime_timed-requires-clause-timed c =
    let told = c.in_ok-find_leads.ensures in
    let roots = c.find_roots in
    now_timed c.args.mode c.args.net.now.net told.verdict c.requires.formed c.find_leads.new.leads roots.new.timing told.leads roots.ensures.leads roots.ensures.traced

pub retime_timed-requires-clause-new_is : goal.retime_timed-requires-clause-new_is
retime_timed-requires-clause-new_is c = new_is c.args.mode c.args.net.now.net c.in_ok-find_leads.ensures.verdict c.requires.formed

pub retime_timed-requires-clause-no_debt : goal.retime_timed-requires-clause-no_debt
retime_timed-requires-clause-no_debt c = no_closed_debt c.args.mode c.args.net.now.net c.in_ok-find_leads.ensures.verdict c.requires.formed

pub returns-clause-verdict : goal.returns-clause-verdict
returns-clause-verdict c = c.retime_timed.ensures.verdict ∙ then_13 c.args.mode c.args.net.now.net c.in_ok-find_leads.ensures.verdict
