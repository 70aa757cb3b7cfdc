-- Two behaviours under the same inputs are equal: induction on the clock, inside it on the rank. Assumes nothing.
use Rattle.std.specs.Prelude.{◌≡◌, refl}
use Rattle.std.proofs.Math.Path.{sym}
use Rattle.std.proofs.Common.{◌∙◌, not-suc-le-zero, arith}
use Prim.Native.Nat.{ℕ, zero, suc, ◌<◌}
use Rattle.netlist.specs.Net.{Net, size, element_at, width_at, source, operands, contents_at, within_clock, within_few, port_of, Behaves, Sourced, Ranked, RankedIn}
use Rattle.behaviour.proofs.Gives.{gives-cong}

module _ (N : Net) (rank : ℕ → ℕ) (sourced : Sourced N) (ranked : Ranked N rank) (ins B C : ℕ → ℕ → ℕ) (hB : Behaves N ins B) (hC : Behaves N ins C) where
  -- at clock t for every node of a rank below k, where all earlier clocks agree
  level : (t k : ℕ) → ((s v : ℕ) → s < t → v < size N → B s v ≡ C s v) → (v : ℕ) → v < size N → rank v < k → B t v ≡ C t v
  unfolding Behaves Sourced RankedIn
  level t zero earlier v h l = absurd (not-suc-le-zero l)
  level t (suc k) earlier v h l =
      hB t v h
      ∙ gives-cong (contents_at N v) (width_at N v) (λ p. width_at N (source N v p)) (λ p. width_at N (source N v p)) (λ s. ins s (port_of N v)) (λ s. ins s (port_of N v))
      (λ p s. B s (source N v p)) (λ p s. C s (source N v p)) t (element_at N v) (λ p q. refl) (λ e. refl)
      (λ p q. level t k earlier (source N v p) (sourced v p h (omega (arith, within_few (element_at N v)))) (omega (arith, ranked v p h q)))
      (λ p q s r. earlier s (source N v p) r (sourced v p h q))
      ∙ sym (hC t v h)

  up_to : (t s v : ℕ) → s < t → v < size N → B s v ≡ C s v
  up_to zero s v l h = absurd (not-suc-le-zero l)
  up_to (suc t) s v l h = level s (suc (rank v)) (λ r u m k. up_to t r u (omega arith) k) v h (omega arith)

  pub unique : (t v : ℕ) → v < size N → B t v ≡ C t v
  unique t v h = up_to (suc t) t v (omega arith) h

-- A behaviour is what its own equations make of it, also where only a part S of its words is spoken of: whatever follows at each word of S from the
-- words of S that it depends on holds at all of S.
module _ (N : Net) (rank : ℕ → ℕ) (sourced : Sourced N) (ranked : Ranked N rank) (R C : ℕ → ℕ → ℕ) (S : ℕ → ℕ → Type 0)
    (each : (t v : ℕ) → v < size N → S t v
    → ((p : ℕ) → p < within_clock (element_at N v) → S t (source N v p) → R t (source N v p) ≡ C t (source N v p))
    → ((p s : ℕ) → p < operands (element_at N v) → s < t → S s (source N v p) → R s (source N v p) ≡ C s (source N v p))
    → R t v ≡ C t v) where
  level_on : (t k : ℕ) → ((s v : ℕ) → s < t → v < size N → S s v → R s v ≡ C s v) → (v : ℕ) → v < size N → rank v < k → S t v → R t v ≡ C t v
  unfolding Sourced RankedIn
  level_on t zero earlier v h l a = absurd (not-suc-le-zero l)
  level_on t (suc k) earlier v h l a =
      each t v h a (λ p q b. level_on t k earlier (source N v p) (sourced v p h (omega (arith, within_few (element_at N v)))) (omega (arith, ranked v p h q)) b)
      (λ p s q r b. earlier s (source N v p) r (sourced v p h q) b)

  up_to_on : (t s v : ℕ) → s < t → v < size N → S s v → R s v ≡ C s v
  up_to_on zero s v l h a = absurd (not-suc-le-zero l)
  up_to_on (suc t) s v l h a = level_on s (suc (rank v)) (λ r u m k b. up_to_on t r u (omega arith) k b) v h (omega arith) a

  pub unique_on : (t v : ℕ) → v < size N → S t v → R t v ≡ C t v
  unique_on t v h a = up_to_on (suc t) t v (omega arith) h a
