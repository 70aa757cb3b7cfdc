-- The loop's invariant: the inner nodes among the turns passed are added.
use mathlib.Core.Path.{◌≡◌}
use Prim.Native.Nat.{◌+◌, ◌≤◌}
use lib.ListN.{length, get_or}
use Rattle.schedule.specs.Listed.{inner_at}
use Rattle.schedule.specs.Listing.{Added}
use Rattle.schedule.proofs.listing.add_inner.Given as goal

abbrev pub invariant-loop-i : goal.invariant-loop-i
invariant-loop-i l = (l.end ≤ l.from + l.i) × (length l.nodes ≡ length l.initial.nodes)
    × Added l.initial.nodes l.nodes l.from (inner_at l.net.net l.net.order) (λ t. get_or l.net.order t 0) l.i l.end
