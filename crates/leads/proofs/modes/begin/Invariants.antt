-- The numbers passed are those of the empty walks.
use Rattle.retiming.specs.LateLeads.{first_lead}
use Rattle.retiming.specs.Modes.{mode_ends}
use Rattle.leads.specs.Stored.{SetTo}
use Rattle.leads.proofs.modes.begin.Given as goal

abbrev pub invariant-loop-v : goal.invariant-loop-v
invariant-loop-v l = SetTo (first_lead l.net.net (mode_ends l.mode l.net.net)) l.initial.leads l.v l.leads
