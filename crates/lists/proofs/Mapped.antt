-- A map done in place, from the first element on. Assumes nothing.
use Rattle.std.specs.Prelude.{◌≡◌, refl, List, [], ◌∷◌, map, ℕ, zero, suc, ◌+◌, ◌≤◌, ◌<◌, length, get_or, set}
use Rattle.std.proofs.Common.{ap, not-suc-le-zero, le_of_suc-le-suc, add-one}

module _ {A : Type 0} (f : A → A) where
  -- the first i are mapped
  abbrev pub mapped_to : ℕ → List A → List A
  mapped_to zero l = l
  mapped_to (suc i) [] = []
  mapped_to (suc i) (x ∷ l) = f x ∷ mapped_to i l

  pub mapped_length : (i : ℕ) (l : List A) → length (mapped_to i l) ≡ length l
  mapped_length zero l = refl
  mapped_length (suc i) [] = refl
  mapped_length (suc i) (x ∷ l) = ap suc (mapped_length i l)

  -- the next one is as it was, and is mapped
  pub mapped_next : (i : ℕ) (l : List A) (d : A) → i < length l → get_or (mapped_to i l) i d ≡ get_or l i d
  mapped_next zero l d h = refl
  mapped_next (suc i) [] d h = absurd (not-suc-le-zero h)
  mapped_next (suc i) (x ∷ l) d h = mapped_next i l d (le_of_suc-le-suc h)

  one_more : (i : ℕ) (l : List A) (d : A) → i < length l → set (mapped_to i l) i (f (get_or l i d)) ≡ mapped_to (suc i) l
  one_more i [] d h = absurd (not-suc-le-zero h)
  one_more zero (x ∷ l) d h = refl
  one_more (suc i) (x ∷ l) d h = ap (λ (m : List A). f x ∷ m) (one_more i l d (le_of_suc-le-suc h))

  pub mapped_more : (i : ℕ) (l : List A) (d : A) → i < length l → set (mapped_to i l) i (f (get_or l i d)) ≡ mapped_to (i + 1) l
  mapped_more i l d h = rw (add-one i) (one_more i l d h)

  pub mapped_all : (i : ℕ) (l : List A) → length l ≤ i → mapped_to i l ≡ map f l
  mapped_all zero [] h = refl
  mapped_all zero (x ∷ l) h = absurd (not-suc-le-zero h)
  mapped_all (suc i) [] h = refl
  mapped_all (suc i) (x ∷ l) h = ap (λ (m : List A). f x ∷ m) (mapped_all i l (le_of_suc-le-suc h))
