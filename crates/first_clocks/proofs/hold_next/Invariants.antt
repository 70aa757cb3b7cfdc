use Rattle.first_clocks.specs.NextClock.{HeldTo}
use Rattle.first_clocks.proofs.hold_next.Given as goal

abbrev pub invariant-loop-member : goal.invariant-loop-member
invariant-loop-member l = HeldTo l.net.net l.members l.words l.next l.member-index
