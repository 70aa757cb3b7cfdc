-- A pass over numbered things that flags those that pass a test, and counts them: what a try at one leaves, and what a pass leaves. Assumes nothing.
use Rattle.std.specs.Prelude.{◌≡◌, refl, Bool, false, List, ℕ, suc, ◌+◌, ◌≤◌, ◌<◌, get_or, ltb}
use Rattle.std.proofs.Common.{sym, subst, ◌∙◌, ⊎_elim, true≢false, not-suc-le-zero, le_refl, arith, lt-ltb}
use Rattle.lists.proofs.BelowLaws.{lt-suc_split}

-- v is flagged
abbrev pub on : List ℕ → ℕ → Bool
on flags v = ltb 0 (get_or flags v 0)

-- what a try at v leaves, with what holds afterwards: more flagged, or the same
pub record Once (Holds : Type 0) (test : List ℕ → ℕ → Bool) (flags₀ flags : List ℕ) (k₀ k v : ℕ) : Type 0 where
  pub holds : Holds
  pub grows : k₀ ≤ k
  pub still : k ≡ k₀ → (flags ≡ flags₀) × (on flags₀ v ≡ false → test flags₀ v ≡ false)

-- none of the first i could be flagged
abbrev pub Waiting : (List ℕ → ℕ → Bool) → List ℕ → ℕ → Type 0
Waiting test flags i = (v : ℕ) → v < i → on flags v ≡ false → test flags v ≡ false

-- what tries at the first i leave
pub record Swept (Holds : Type 0) (test : List ℕ → ℕ → Bool) (flags₀ flags : List ℕ) (k₀ k i : ℕ) : Type 0 where
  pub holds : Holds
  pub grows : k₀ ≤ k
  pub still : k ≡ k₀ → (flags ≡ flags₀) × Waiting test flags₀ i

module _ {test : List ℕ → ℕ → Bool} where
  pub once_on : {A : Type 0} {flags : List ℕ} {k v : ℕ} → A → 0 < get_or flags v 0 → Once A test flags flags k k v
  once_on {A} {flags} {k} {v} a h = record { holds = a; grows = le_refl k; still = λ _. (refl, λ e. absurd (true≢false (sym (lt-ltb 0 (get_or flags v 0) h) ∙ e))) }

  pub once_waiting : {A : Type 0} {flags : List ℕ} {k v : ℕ} → A → test flags v ≡ false → Once A test flags flags k k v
  once_waiting {A} {flags} {k} {v} a h = record { holds = a; grows = le_refl k; still = λ _. (refl, λ _. h) }

  pub once_more : {A : Type 0} {flags₀ flags : List ℕ} {k v : ℕ} → A → Once A test flags₀ flags k (k + 1) v
  once_more a = record { holds = a; grows = omega arith; still = λ e. absurd (omega arith) }

  pub swept_none : {A : Type 0} {flags : List ℕ} {k : ℕ} → A → Swept A test flags flags k k 0
  swept_none {A} {flags} {k} a = record { holds = a; grows = le_refl k; still = λ _. (refl, λ v l. absurd (not-suc-le-zero l)) }

  pub swept_more : {A B : Type 0} {flags₀ flags flags' : List ℕ} {k₀ k k' i : ℕ} → Swept A test flags₀ flags k₀ k i → Once B test flags flags' k k' i → Swept B test flags₀ flags' k₀ k' (i + 1)
  swept_more {A} {B} {flags₀} {flags} {flags'} {k₀} {k} {k'} {i} s w = record {
    holds = w.holds;
    grows = let a = s.grows in let b = w.grows in omega arith;
    still = λ e. quiet (s.still (let a = s.grows in let b = w.grows in omega arith)) (w.still (let a = s.grows in let b = w.grows in omega arith));
  }
    where
      quiet : (flags ≡ flags₀) × Waiting test flags₀ i → (flags' ≡ flags) × (on flags i ≡ false → test flags i ≡ false) → (flags' ≡ flags₀) × Waiting test flags₀ (i + 1)
      quiet (p, f) (q, g) = (q ∙ p, λ v l. ⊎_elim (λ a. f v a) (λ a. subst (λ (u : ℕ). on flags₀ u ≡ false → test flags₀ u ≡ false) (sym a) (subst (λ (x : List ℕ). on x i ≡ false → test x i ≡ false) p g)) (lt-suc_split (let b : v < suc i = omega arith in b)))

  -- a pass that flagged nothing: nothing can be flagged
  pub swept_rest : {A : Type 0} {flags₀ flags : List ℕ} {k₀ k i : ℕ} → Swept A test flags₀ flags k₀ k i → k ≡ k₀ → Waiting test flags i
  swept_rest {A} {flags₀} {flags} {k₀} {k} {i} s e = go (s.still e)
    where
      go : (flags ≡ flags₀) × Waiting test flags₀ i → Waiting test flags i
      go (p, w) = subst (λ (f : List ℕ). Waiting test f i) (sym p) w
