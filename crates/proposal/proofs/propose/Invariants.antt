-- Each walk notes so many at most.
use mathlib.Core.Path.{◌≡◌}
use Prim.Native.Nat.{◌+◌, ◌*◌, ◌≤◌}
use lib.ListN.{length}
use Rattle.proposal.proofs.propose.Given as goal

abbrev pub invariant-loop-root : goal.invariant-loop-root
invariant-loop-root l = (length l.area ≡ length l.initial.area) × (l.noted ≤ 1024 + 2048 * l.root)
