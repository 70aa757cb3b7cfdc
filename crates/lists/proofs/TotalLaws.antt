-- Sums of lists: of parts one after the other, and of how many fall on each number. Assumes nothing.
use Rattle.std.specs.Prelude.{◌≡◌, refl, Bool, true, false, ◌&&◌, List, [], ◌∷◌, ◌++◌, map, ℕ, zero, suc, ◌+◌, ◌<◌, length, eqb}
use Rattle.std.proofs.Common.{sym, ap, ◌∙◌, ⊎_elim, add-zero, not-suc-le-zero, add-one, arith, length-append, ne_eqb}
use Rattle.lists.specs.Lists.{concat_map, only, select, one, count_below, total}
use Rattle.lists.proofs.BelowLaws.{true_or_false, eqb_self, lt-suc_split}
use Rattle.lists.proofs.ListsLaws.{map-append}
use Rattle.lists.proofs.SelectLaws.{select-more, select_same}

total-append : (l m : List ℕ) → total (l ++ m) ≡ total l + total m
total-append [] m = omega arith
total-append (x ∷ l) m = omega (arith, total-append l m)

-- ---- parts one after the other

module _ {A B : Type 0} (f : A → List B) where
  pub length-concat_map : (xs : List A) → length (concat_map f xs) ≡ total (map (λ x. length (f x)) xs)
  length-concat_map [] = refl
  length-concat_map (x ∷ xs) = length-append (f x) (concat_map f xs) ∙ ap (λ (k : ℕ). length (f x) + k) (length-concat_map xs)

  pub total-concat_map : (g : B → ℕ) (xs : List A) → total (map g (concat_map f xs)) ≡ total (map (λ x. total (map g (f x))) xs)
  total-concat_map g [] = refl
  total-concat_map g (x ∷ xs) =
      ap total (map-append g (f x) (concat_map f xs)) ∙ total-append (map g (f x)) (map g (concat_map f xs)) ∙ ap (λ (k : ℕ). total (map g (f x)) + k) (total-concat_map g xs)

-- ---- what is chosen

module _ (q : ℕ → Bool) where
  total-more : (h : ℕ → ℕ) (n : ℕ) → total (select q h (suc n)) ≡ total (select q h n) + total (only (q n) (h n))
  total-more h n = ap (λ (k : ℕ). total (select q h k)) (sym (add-one n)) ∙ ap total (select-more q h n) ∙ total-append (select q h n) (only (q n) (h n))

  total_none : (n : ℕ) → total (select q (λ v. 0) n) ≡ 0
  total_none zero = refl
  total_none (suc n) = omega (arith, total-more (λ v. 0) n, total_none n, none (q n))
    where
      none : (b : Bool) → total (only b 0) ≡ 0
      none true = refl
      none false = refl

  -- one more at r
  module _ (h : ℕ → ℕ) (r : ℕ) where
    abbrev more : ℕ → ℕ
    more u = h u + one (eqb r u)

    apart : (u : ℕ) → (r ≡ u → ⊥) → more u ≡ h u
    apart u d = omega (arith, ap one (ne_eqb r u d))

    at_last : (n : ℕ) → q n ≡ true → r ≡ n → total (only (q n) (more n)) ≡ suc (total (only (q n) (h n)))
    at_last n on k = let here : one (eqb r n) ≡ 1 = ap (λ (x : ℕ). one (eqb r x)) (sym k) ∙ ap one (eqb_self r) in rw on (omega arith)

    marked : (n : ℕ) → r < n → q r ≡ true → total (select q more n) ≡ suc (total (select q h n))
    marked zero l e = absurd (not-suc-le-zero l)
    marked (suc n) l e =
        ⊎_elim
        (λ (k : r < n). omega (arith, total-more more n, total-more h n, marked n k e, ap (λ (x : ℕ). total (only (q n) x)) (apart n (λ d. omega arith))))
        (λ (k : r ≡ n).
        let before : total (select q more n) ≡ total (select q h n) = ap total (select_same q more h n (λ v m t. apart v (λ d. omega arith))) in
        omega (arith, total-more more n, total-more h n, before, at_last n (ap q (sym k) ∙ e) k))
        (lt-suc_split l)

  -- each s that passes a test falls on a number that is chosen: what falls on these, taken together, is all of it
  pub total_fallen : (t : ℕ → Bool) (r : ℕ → ℕ) (n m : ℕ) → ((s : ℕ) → s < m → t s ≡ true → (r s < n) × (q (r s) ≡ true))
      → total (select q (λ u. count_below (λ s. t s && eqb (r s) u) m) n) ≡ count_below t m
  total_fallen t r n zero h = total_none n
  total_fallen t r n (suc m) h =
      let before = total_fallen t r n m (λ s l e. h s (omega arith) e) in
      let counts : ℕ → ℕ = λ u. count_below (λ s. t s && eqb (r s) u) m in
      ⊎_elim
      (λ (e : t m ≡ true). rw e (let k = h m (omega arith) e in omega (arith, marked counts (r m) n k.0 k.1, before)))
      (λ (e : t m ≡ false). rw e (ap total (select_same q (λ u. counts u + 0) counts n (λ v l c. add-zero (counts v))) ∙ omega (arith, before)))
      (true_or_false (t m))
