-- The loop's invariant: the wires to the first p operands have their gates. After it there are none up to the next entry.
use Prim.Native.Nat.{◌+◌, ◌*◌}
use Rattle.steering.specs.Gating.{GatesFirst}
use Rattle.steering.proofs.pairs.gate_entry.Given as goal

abbrev pub invariant-loop-p : goal.invariant-loop-p
invariant-loop-p l = GatesFirst l.from l.plan (3 * l.e + l.p) l.total
