-- Words are put one after the other from a place on. Assumes nothing.
use Rattle.std.specs.Prelude.{◌≡◌, refl, ◌⊎◌, List, ℕ, suc, ◌+◌, ◌≤◌, ◌<◌, length, get_or, set}
use Rattle.std.proofs.Common.{sym, ap, subst, ◌∙◌, inl, inr, ⊎_elim, arith, length-set, get_or-set_same, get_or-set_other, ext_get_or}
use Rattle.lists.proofs.BelowLaws.{lt-suc_split}
use Rattle.lists.specs.Sections.{section}
use Rattle.lists.proofs.Sections.{section-length, section-read}

-- the n words from a place on are those that f says, and no other is touched
pub record Put (from n : ℕ) (f : ℕ → ℕ) (before after : List ℕ) : Type 0 where
  pub kept : length after ≡ length before
  pub each : (j : ℕ) → j < n → get_or after (from + j) 0 ≡ f j
  pub others : (j : ℕ) → (j < from) ⊎ (from + n ≤ j) → get_or after j 0 ≡ get_or before j 0

module _ {from : ℕ} {f : ℕ → ℕ} where
  pub put_none : {l : List ℕ} → Put from 0 f l l
  put_none = record { kept = refl; each = λ j h. absurd (omega arith); others = λ j h. refl }

  pub put-more : {n x : ℕ} {before after : List ℕ} → Put from n f before after → x ≡ f n → from + n < length before → Put from (n + 1) f before (set after (from + n) x)
  put-more {n} {x} {before} {after} t e room = record {
    kept = length-set after (from + n) x ∙ t.kept;
    each = λ j h. ⊎_elim (λ k. get_or-set_other after (from + n) (from + j) x 0 (λ q. omega arith) ∙ t.each j k)
        (λ k. ap (λ (i : ℕ). get_or (set after (from + n) x) (from + i) 0) k ∙ get_or-set_same after (from + n) x 0 (omega (arith, t.kept)) ∙ e ∙ ap f (sym k))
        (lt-suc_split (let k : j < suc n = omega arith in k));
    others = λ j h. get_or-set_other after (from + n) j x 0 (λ q. ⊎_elim (λ k. omega arith) (λ k. omega arith) h)
        ∙ t.others j (⊎_elim (λ k. inl k) (λ k. inr (omega arith)) h);
  }

pub put_at : {from n m : ℕ} {f : ℕ → ℕ} {before after : List ℕ} → Put from n f before after → n ≡ m → Put from m f before after
put_at {from} {f = f} {before = b} {after = a} t e = subst (λ (k : ℕ). Put from k f b a) e t

-- as a list
pub put-section : {from n : ℕ} {f : ℕ → ℕ} {before after : List ℕ} → Put from n f before after → from + n ≤ length before → (ws : List ℕ) → length ws ≡ n
    → ((j : ℕ) → j < n → f j ≡ get_or ws j 0) → section from n after ≡ ws
put-section {from} {n} {f} {before} {after} t room ws long is =
    ext_get_or 0 (section from n after) ws (section-length from n after (omega (arith, t.kept)) ∙ sym long)
    (λ j h. let l : j < n = omega (arith, section-length from n after (omega (arith, t.kept))) in section-read from n after j l ∙ t.each j l ∙ is j l)
