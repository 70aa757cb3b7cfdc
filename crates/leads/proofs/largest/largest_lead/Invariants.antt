-- The largest of the numbers before v.
use mathlib.Core.Path.{◌≡◌}
use lib.ListN.{get_or}
use Rattle.lists.specs.Lists.{largest}
use Rattle.leads.proofs.largest.largest_lead.Given as goal

abbrev pub invariant-loop-v : goal.invariant-loop-v
invariant-loop-v l = l.most ≡ largest l.v (λ u. get_or l.leads u 0)
