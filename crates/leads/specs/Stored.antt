-- The numbers of a list after a store, and after a pass that stores each in turn. Assumes nothing.
use Rattle.std.specs.Prelude.{◌≡◌, refl, List, ℕ, suc, ◌+◌, ◌≤◌, ◌<◌, length, get_or, set}
use Rattle.std.proofs.Common.{sym, ap, subst, ◌∙◌, ⊎_elim, arith, get_or-set_same, get_or-set_other}
use Rattle.std.proofs.Math.Decide.{ℕ_discrete}
use Rattle.lists.proofs.BelowLaws.{lt-suc_split}

-- what holds of a place and its number
pub after-set : (P : ℕ → ℕ → Type 0) (L : List ℕ) (i x : ℕ) → i < length L → P i x → (u : ℕ) → P u (get_or L u 0) → P u (get_or (set L i x) u 0)
after-set P L i x l a u b = elim (ℕ_discrete u i) [
  | yes e ↦ subst (λ (k : ℕ). P k (get_or (set L i x) k 0)) (sym e) (subst (P i) (sym (get_or-set_same L i x 0 l)) a)
  | no e ↦ subst (P u) (sym (get_or-set_other L i u x 0 e)) b
]

-- the first i numbers are f's, and the others are as they were
pub record SetTo (f : ℕ → ℕ) (before : List ℕ) (i : ℕ) (after : List ℕ) : Type 0 where
  pub first : (u : ℕ) → u < i → get_or after u 0 ≡ f u
  pub rest : (u : ℕ) → i ≤ u → get_or after u 0 ≡ get_or before u 0

module _ (f : ℕ → ℕ) {before : List ℕ} where
  pub set_none : SetTo f before 0 before
  set_none = record { first = λ u l. absurd (omega arith); rest = λ u l. refl }

  pub set_more : {i x : ℕ} {after later : List ℕ} → i < length after → later ≡ set after i x → x ≡ f i → SetTo f before i after → SetTo f before (i + 1) later
  set_more {i} {x} {after} {later} l s e t = record {
    first = λ u k. at u ∙ ⊎_elim (λ m. get_or-set_other after i u x 0 (λ q. omega arith) ∙ t.first u m) (λ m. ap (λ (j : ℕ). get_or (set after i x) j 0) m ∙ get_or-set_same after i x 0 l ∙ e ∙ ap f (sym m)) (lt-suc_split (let z : u < suc i = omega arith in z));
    rest = λ u k. at u ∙ get_or-set_other after i u x 0 (λ q. omega arith) ∙ t.rest u (omega arith);
  }
    where
      at : (u : ℕ) → get_or later u 0 ≡ get_or (set after i x) u 0
      at u = ap (λ (k : List ℕ). get_or k u 0) s
