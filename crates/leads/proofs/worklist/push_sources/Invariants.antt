-- Nothing is said but how long the stack may be.
use Prim.Native.Nat.{◌+◌, ◌≤◌}
use Rattle.leads.proofs.worklist.push_sources.Given as goal

abbrev pub invariant-loop-p : goal.invariant-loop-p
invariant-loop-p l = l.depth ≤ l.start + l.p
