-- The loop's invariant: the rank falls along the steps into the nodes before v.
use Rattle.std.proofs.Common.{get_or}
use Rattle.cycles.specs.Falls.{FallsBelow}
use Rattle.cycles.proofs.rings.ranked.Given as goal

abbrev pub invariant-loop-v : goal.invariant-loop-v
invariant-loop-v l = FallsBelow l.net.net (λ u. get_or l.ranks u 0) l.v
