-- What the operands of a walk tell of its length: the registers of the old wires to them, and the clocked ROMs whose operands they are. Of an old walk that is its
-- length, but for the registers before it and those that it ends among. Assumes nothing.
use Rattle.std.specs.Prelude.{◌≡◌, refl, Bool, true, false, not, List, [], ◌∷◌, ◌++◌, map, ℕ, ◌+◌}
use Rattle.std.proofs.Common.{sym, zero-add, arith}
use Rattle.std.proofs.Math.Path.{ap}
use Rattle.std.proofs.Math.Logic.{⊎_elim}
use Rattle.lists.specs.Lists.{one, only}
use Rattle.lists.proofs.BelowLaws.{true_or_false}
use Rattle.netlist.specs.Net.{Net, element_at, source, is_register, holds_word}
use Rattle.retiming.specs.Leads.{Walk, here, step}
use Rattle.retiming.specs.Rewrite.{Timing, passed}
use Rattle.retiming.specs.Lengths.{latency, Pin, pin, pins, itself}
use Rattle.retiming.proofs.Wires.{wire_none}
use Rattle.retiming.specs.Candidate.{Retimes}
use Rattle.retiming.proofs.Standing.{next_root}

unfoldable pub weight : Net → List Pin → ℕ
weight N [] = 0
weight N (h ∷ hs) = (passed N (source N h.node h.operand) + one (holds_word (element_at N h.node))) + weight N hs

pub weight-append : (N : Net) (a b : List Pin) → weight N (a ++ b) ≡ weight N a + weight N b
unfolding weight
weight-append N [] b = sym (zero-add _)
weight-append N (h ∷ a) b = omega (arith, weight-append N a b)

module _ (N : Net) (f : Timing) (ok : Retimes N f) where
  weight_register : (x p : ℕ) → is_register (element_at N x) ≡ true → (weight N (map (pin p) (itself N x)) ≡ 0) × (one (holds_word (element_at N x)) ≡ 1)
  unfolding itself weight
  weight_register x p t = rw t (refl, refl)

  weight_node : (x p : ℕ) → is_register (element_at N x) ≡ false → weight N (map (pin p) (itself N x)) ≡ passed N (source N x p) + one (holds_word (element_at N x))
  unfolding itself weight pin
  weight_node x p t = omega (arith, ap (λ (b : Bool). weight N (map (pin p) (only (not b) x))) t)

  pub old_weight : {u v : ℕ} (w : Walk N u v) → latency w + passed N u ≡ weight N (pins (itself N) w) + passed N v
  unfolding latency pins weight
  old_weight (here e) = omega (arith, ap (passed N) e)
  old_weight {u} (step {x = x} r w) =
      let sum = weight-append N (map (pin r.operand) (itself N x)) (pins (itself N) w) in
      ⊎_elim (λ t. let k = weight_register x r.operand t in omega (arith, sum, old_weight w, k.0, k.1, (next_root N f ok x u r t).1))
      (λ t. omega (arith, sum, old_weight w, weight_node x r.operand t, (wire_none N x t).1, ap (passed N) r.from))
      (true_or_false (is_register (element_at N x)))
