-- Laws of what specs/Sections.antt defines. Assumes nothing.
use Rattle.std.specs.Prelude.{◌≡◌, refl, List, [], ◌∷◌, ◌++◌, map, ℕ, zero, suc, ◌+◌, ◌-◌, ◌≤◌, ◌<◌, length, get_or, set, take, drop, replicate}
use Rattle.std.proofs.Common.{sym, ap, ap₂, ◌∙◌, add-one, arith, length-drop, length-set, length-take-le, take_all, get_or-take, get_or-drop, take-suc-set, drop-set-lt, ext_get_or}
use Rattle.std.proofs.lemmas.List.{take-set-le, drop-set-add}
use Rattle.std.proofs.Math.Seq.{take-set-lt}
use Rattle.lists.specs.Lists.{below}
use Rattle.lists.proofs.BelowLaws.{length_listed, get_or_listed}
use Rattle.lists.specs.Sections.{section}

-- of an area with one word all over
pub section_replicate : (at n m x : ℕ) → at + n ≤ m → section at n (replicate m x) ≡ replicate n x
section_replicate at n m x h =
    ap (take n) (drop_some at m) ∙ take_some n (m - at) (omega arith)
  where
    drop_some : (i k : ℕ) → drop i (replicate k x) ≡ replicate (k - i) x
    drop_some zero k = ap (λ (j : ℕ). replicate j x) (let e : k ≡ k - 0 = omega arith in e)
    drop_some (suc i) zero = ap (λ (j : ℕ). replicate j x) (let e : 0 ≡ 0 - suc i = omega arith in e)
    drop_some (suc i) (suc k) = drop_some i k ∙ ap (λ (j : ℕ). replicate j x) (let e : k - i ≡ suc k - suc i = omega arith in e)

    take_some : (i k : ℕ) → i ≤ k → take i (replicate k x) ≡ replicate i x
    take_some zero k l = refl
    take_some (suc i) zero l = absurd (omega arith)
    take_some (suc i) (suc k) l = ap (λ (t : List ℕ). x ∷ t) (take_some i k (omega arith))

module _ (at n : ℕ) (l : List ℕ) where
  pub section-length : at + n ≤ length l → length (section at n l) ≡ n
  section-length h = length-take-le n (drop at l) (omega (arith, length-drop at l))

  pub section-read : (i : ℕ) → i < n → get_or (section at n l) i 0 ≡ get_or l (at + i) 0
  section-read i h = get_or-take n (drop at l) i 0 h ∙ get_or-drop at l i 0

  -- a word of it is put
  pub section-put : (i x : ℕ) → i < n → section at n (set l (at + i) x) ≡ set (section at n l) i x
  section-put i x h = ap (take n) (drop-set-add at l i x) ∙ take-set-lt n (drop at l) i x h

  -- or the next word
  pub section-more : (x : ℕ) → at + n < length l → section at (n + 1) (set l (at + n) x) ≡ section at n l ++ (x ∷ [])
  section-more x h = ap₂ take (add-one n) (drop-set-add at l n x) ∙ take-suc-set (drop at l) n x (omega (arith, length-drop at l))

  -- a word before it, or one after it
  pub section_before : (j x : ℕ) → j < at → section at n (set l j x) ≡ section at n l
  section_before j x h = ap (take n) (drop-set-lt at l j x h)

  pub section-after : (j x : ℕ) → at + n ≤ j → section at n (set l j x) ≡ section at n l
  section-after j x h =
      ap (λ (k : ℕ). take n (drop at (set l k x))) (let e : j ≡ at + (j - at) = omega arith in e)
      ∙ ap (take n) (drop-set-add at l (j - at) x) ∙ take-set-le n (drop at l) (j - at) x (omega arith)

  -- the last section, any word
  module _ (last : length l ≤ at + n) where
    all_of_it : (m : List ℕ) → length m ≡ length l → section at n m ≡ drop at m
    all_of_it m e = take_all n (drop at m) (omega (arith, length-drop at m))

    pub last_read : (i : ℕ) → get_or (section at n l) i 0 ≡ get_or l (at + i) 0
    last_read i = ap (λ (m : List ℕ). get_or m i 0) (all_of_it l refl) ∙ get_or-drop at l i 0

    pub last_put : (i x : ℕ) → section at n (set l (at + i) x) ≡ set (section at n l) i x
    last_put i x = all_of_it (set l (at + i) x) (length-set l (at + i) x) ∙ drop-set-add at l i x ∙ ap (λ (m : List ℕ). set m i x) (sym (all_of_it l refl))

-- a part of a list, word by word
pub section_listed : (from n : ℕ) (l : List ℕ) → from + n ≤ length l → map (λ k. get_or l (from + k) 0) (below n) ≡ section from n l
section_listed from n l h =
    ext_get_or 0 _ _ (length_listed (λ k. get_or l (from + k) 0) n ∙ sym (section-length from n l h))
    (λ j k. let m : j < n = omega (arith, length_listed (λ i. get_or l (from + i) 0) n) in get_or_listed (λ i. get_or l (from + i) 0) n j 0 m ∙ sym (section-read from n l j m))
