-- A list of rows of at most three, laid out in a row with three places to each. Assumes nothing.
use Rattle.std.specs.Prelude.{◌≡◌, refl, cond, List, [], ◌++◌, ℕ, zero, suc, ◌+◌, ◌-◌, ◌*◌, ◌≤◌, ◌<◌, length, ltb}
use Rattle.std.proofs.Common.{sym, ap, ap₂, ◌∙◌, append-nil, append_assoc, zero-add, not-suc-le-zero, le_of_suc-le-suc, arith, length-append}
use Rattle.lists.specs.Lists.{up_from, below, concat_map}
use Rattle.lists.proofs.BelowLaws.{up_from_split}
use Rattle.lists.proofs.ListsLaws.{concat_map-append}

module _ {B : Type 0} where
  -- one part more
  pub concat_next : (f : ℕ → List B) (n : ℕ) → concat_map f (below (n + 1)) ≡ concat_map f (below n) ++ f n
  concat_next f n =
      ap (concat_map f) (up_from_split 0 n 1) ∙ concat_map-append f (up_from 0 n) (up_from (0 + n) 1)
      ∙ ap (λ (l : List B). concat_map f (below n) ++ l) (append-nil (f (0 + n)) ∙ ap f (zero-add n))

  -- the parts of the first m, and then those of the next k
  pub concat-after : (f : ℕ → List B) (m k : ℕ) → concat_map f (below (m + k)) ≡ concat_map f (below m) ++ concat_map f (up_from (0 + m) k)
  concat-after f m k = ap (concat_map f) (up_from_split 0 m k) ∙ concat_map-append f (up_from 0 m) (up_from (0 + m) k)

  pub concat_longer : (f : ℕ → List B) (m n : ℕ) → m ≤ n → length (concat_map f (below m)) ≤ length (concat_map f (below n))
  concat_longer f m n h =
      let e : m + (n - m) ≡ n = omega arith in
      omega (arith, ap (λ (k : ℕ). length (concat_map f (below k))) e, ap length (concat-after f m (n - m)), length-append (concat_map f (below m)) (concat_map f (up_from (0 + m) (n - m))))

  -- place p of a row of m
  abbrev pub in_row : ℕ → (ℕ → List B) → ℕ → List B
  in_row m q p = cond (ltb p m) (q p) []

  pub row_of_three : (m : ℕ) (q : ℕ → List B) → m ≤ 3 → concat_map q (below m) ≡ in_row m q 0 ++ in_row m q 1 ++ in_row m q 2
  row_of_three zero q h = refl
  row_of_three (suc zero) q h = sym (append-nil (q 0 ++ []))
  row_of_three (suc (suc zero)) q h = sym (append_assoc (q 0) (q 1) [])
  row_of_three (suc (suc (suc zero))) q h = ap (λ (l : List B). q 0 ++ (q 1 ++ l)) (append-nil (q 2)) ∙ sym (append_assoc (q 0) (q 1) (q 2))
  row_of_three (suc (suc (suc (suc m)))) q h = absurd (not-suc-le-zero (le_of_suc-le-suc (le_of_suc-le-suc (le_of_suc-le-suc h))))

  pub in_threes : (f h : ℕ → List B) (n : ℕ) → ((x : ℕ) → x < n → f x ≡ h (3 * x) ++ h (3 * x + 1) ++ h (3 * x + 2)) → concat_map f (below n) ≡ concat_map h (below (3 * n))
  in_threes f h zero e = refl
  in_threes f h (suc n) e =
      let three : 3 * suc n ≡ 3 * n + 1 + 1 + 1 = omega arith in
      let next : suc n ≡ n + 1 = omega arith in
      let second : 3 * n + 1 + 1 ≡ 3 * n + 2 = omega arith in
      ap (λ (k : ℕ). concat_map f (below k)) next ∙ concat_next f n
      ∙ ap₂ ◌++◌ (in_threes f h n (λ x l. e x (omega arith))) (e n (omega arith))
      ∙ sym (append_assoc (concat_map h (below (3 * n))) (h (3 * n) ++ h (3 * n + 1)) (h (3 * n + 2)))
      ∙ ap (λ (l : List B). l ++ h (3 * n + 2)) (sym (append_assoc (concat_map h (below (3 * n))) (h (3 * n)) (h (3 * n + 1)))
      ∙ ap (λ (l : List B). l ++ h (3 * n + 1)) (sym (concat_next h (3 * n))) ∙ sym (concat_next h (3 * n + 1)))
      ∙ ap (λ (k : ℕ). concat_map h (below (3 * n + 1 + 1)) ++ h k) (sym second)
      ∙ sym (concat_next h (3 * n + 1 + 1))
      ∙ ap (λ (k : ℕ). concat_map h (below k)) (sym three)
