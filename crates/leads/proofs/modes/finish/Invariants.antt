-- The numbers passed are the timing's leads, and the others are still those found.
use Rattle.retiming.specs.Modes.{mode_timing}
use Rattle.leads.specs.Stored.{SetTo}
use Rattle.leads.proofs.modes.finish.Given as goal

abbrev pub invariant-loop-v : goal.invariant-loop-v
invariant-loop-v l = SetTo (mode_timing l.mode l.net.net).lead l.initial.leads l.v l.leads
