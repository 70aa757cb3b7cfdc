-- Each step enters a node or leaves one: no more are noted than there are steps.
use mathlib.Core.Path.{◌≡◌}
use Prim.Native.Nat.{◌+◌, ◌≤◌}
use lib.ListN.{length}
use Rattle.proposal.proofs.walk_from.Given as goal

abbrev pub invariant-loop-i : goal.invariant-loop-i
invariant-loop-i l = (length l.area ≡ length l.initial.area) × (l.depth ≤ l._i + 1) × (l.noted ≤ l.start + l._i)
