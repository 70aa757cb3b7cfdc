use Rattle.first_clocks.specs.NextClock.{Renewed}
use Rattle.first_clocks.proofs.store_next.Given as goal

abbrev pub invariant-loop-member : goal.invariant-loop-member
invariant-loop-member l = Renewed l.members l.next l.initial.words l.words l.member-index
