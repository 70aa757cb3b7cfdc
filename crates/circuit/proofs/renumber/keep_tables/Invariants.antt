use Prim.Native.Nat.{◌≤◌}
use Rattle.circuit.proofs.Keeping.{Keeping}
use Rattle.circuit.proofs.renumber.keep_tables.Given as goal

abbrev pub invariant-loop-k : goal.invariant-loop-k
invariant-loop-k l = (l.n ≤ 16) × Keeping l.marks l.initial.net l.k l.kept l.net
