use lib.ListN.{get_or}
use lib.Dec.{ltb}
use Rattle.lists.proofs.SearchLaws.{Passed}
use Rattle.leads.proofs.over_bound.Given as goal

abbrev pub invariant-loop-v : goal.invariant-loop-v
invariant-loop-v l = Passed (λ i. ltb l.bound (get_or l.leads i 0)) l.v
