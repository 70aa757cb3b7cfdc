-- A rank that falls along the steps into registers. Assumes nothing.
use Rattle.std.specs.Prelude.{◌≡◌, ℕ, suc, ◌+◌, ◌≤◌, ◌<◌}
use Rattle.std.proofs.Common.{sym, subst, ⊎_elim, arith}
use Rattle.lists.specs.Lists.{one}
use Rattle.lists.proofs.BelowLaws.{lt-suc_split, one_le}
use Rattle.netlist.specs.Net.{in_registers, Net, size, element_at, source, is_register, RankedIn}

-- a rank falls along each step into v, and into each of the first i nodes
abbrev pub Falls : Net → (ℕ → ℕ) → ℕ → Type 0
Falls N rank v = (p : ℕ) → p < one (is_register (element_at N v)) → rank (source N v p) < rank v

abbrev pub FallsBelow : Net → (ℕ → ℕ) → ℕ → Type 0
FallsBelow N rank i = (v : ℕ) → v < i → Falls N rank v

module _ (N : Net) (rank : ℕ → ℕ) where
  pub falls_more : (i : ℕ) → FallsBelow N rank i → Falls N rank i → FallsBelow N rank (i + 1)
  falls_more i f g v h = ⊎_elim (λ l. f v l) (λ e. subst (Falls N rank) (sym e) g) (lt-suc_split (let l : v < suc i = omega arith in l))

  pub falls_all : {i : ℕ} → size N ≤ i → FallsBelow N rank i → RankedIn in_registers N rank
  unfolding RankedIn
  falls_all z f v p h l = f v (omega arith) p l

  -- a register has one source, and nothing else steps
  pub register_falls : {b v : ℕ} → b ≡ one (is_register (element_at N v)) → (0 < b → rank (source N v 0) < rank v) → Falls N rank v
  register_falls {b} {v} e r p l =
      let z : 0 ≡ p = omega (arith, l, one_le (is_register (element_at N v))) in
      subst (λ (j : ℕ). rank (source N v j) < rank v) z (r (omega (arith, l, e)))
