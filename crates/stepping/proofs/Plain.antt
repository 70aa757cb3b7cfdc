-- An operation that holds no number, by its code. Assumes nothing.
use mathlib.Core.Path.{◌≡◌}
use Prim.Native.Nat.{ℕ, ◌-◌, ◌≤◌}
use native.Mathlib.Omega.{arith}
use Rattle.lists.proofs.Paths.{off_eq}
use Rattle.words.specs.declared.Op.{Op}
use Rattle.netlist.specs.NodeField.{plain_op}
use Rattle.circuit.specs.Code.{op_by}

pub plain_by : {c : ℕ} (x : ℕ) {o : Op} → 8 ≤ c → (c ≡ 8 → ⊥) → (c ≡ 18 → ⊥) → o ≡ plain_op (c - 8) → o ≡ op_by (c - 8) x
unfolding op_by
plain_by {c} x h a b r = off_eq _ _ (c - 8) 0 (λ d. a (omega arith)) (off_eq _ _ (c - 8) 10 (λ d. b (omega arith)) r)
