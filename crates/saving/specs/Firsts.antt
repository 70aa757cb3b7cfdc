-- A list's items, counted one after the other: where a loop over them stands. Assumes nothing.
use Rattle.std.specs.Prelude.{◌≡◌, List, [], ◌++◌, ℕ, ◌+◌, ◌*◌, ◌≤◌, ◌<◌, length, get_or, take}
use Rattle.std.proofs.Math.Path.{refl, ap}
use Rattle.std.proofs.Common.{sym, ◌∙◌, zero-le, arith, length-append, take_all}
use Rattle.lists.specs.Lists.{concat_map}
use Rattle.lists.proofs.ListsLaws.{concat_map_next}

-- ---- what the first i items come to

module _ {A : Type 0} (f : A → List ℕ) (xs : List A) where
  unfoldable pub firsts : ℕ → List ℕ
  firsts i = concat_map f (take i xs)

  firsts_none : firsts 0 ≡ []
  unfolding firsts
  firsts_none = refl

  firsts_all : (i : ℕ) → length xs ≤ i → firsts i ≡ concat_map f xs
  unfolding firsts
  firsts_all i h = ap (concat_map f) (take_all i xs h)

  firsts_next : (i : ℕ) (d : A) → i < length xs → firsts (i + 1) ≡ firsts i ++ f (get_or xs i d)
  unfolding firsts
  firsts_next i d h = concat_map_next f xs i d h

-- ---- the first i items are counted, each of at most so many bytes

pub record Summing {A : Type 0} (f : A → List ℕ) (xs : List A) (most i sum : ℕ) : Type 0 where
  pub below : i ≤ length xs
  pub counted : sum ≡ length (firsts f xs i)
  pub small : sum ≤ most * i

pub summing_none : {A : Type 0} (f : A → List ℕ) (xs : List A) (most : ℕ) → Summing f xs most 0 0
summing_none f xs most = record { below = zero-le; counted = sym (ap length (firsts_none f xs)); small = zero-le }

module _ {A : Type 0} {f : A → List ℕ} {xs : List A} {most i sum : ℕ} (t : Summing f xs most i sum) where
  pub summing_more : (d : A) → i < length xs → {x : A} → x ≡ get_or xs i d → {n : ℕ} → n ≡ sum + length (f x) → n ≤ most * (i + 1) → Summing f xs most (i + 1) n
  summing_more d h {x} e q l = record {
    below = omega arith;
    counted = omega (arith, q, t.counted, ap (λ (y : A). length (f y)) e, ap length (firsts_next f xs i d h), length-append (firsts f xs i) (f (get_or xs i d)));
    small = l;
  }

  pub summing_done : length xs ≤ i → sum ≡ length (concat_map f xs)
  summing_done h = t.counted ∙ ap length (firsts_all f xs i h)
