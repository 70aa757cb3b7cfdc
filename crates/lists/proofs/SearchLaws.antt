-- A search from 0 on: what has been passed, and what it then tells. Assumes nothing.
use Rattle.std.specs.Prelude.{◌≡◌, refl, ◌⊎◌, Bool, true, false, ℕ, zero, suc, ◌+◌, ◌≤◌, ◌<◌}
use Rattle.std.proofs.Common.{sym, ap, ◌∙◌, inl, inr, ⊎_elim, zero-le, not-suc-le-zero, arith}
use Rattle.std.proofs.lemmas.Bool.{false≢true}
use Rattle.lists.specs.Lists.{any_below, all_below, lowest, count_below, one}
use Rattle.lists.proofs.BelowLaws.{true_or_false, lt-suc_split, lt_or_le, lowest_from_is, any_below_elim, all_below_elim, count_below-le}

-- no number below i passes the test
abbrev pub Passed : (ℕ → Bool) → ℕ → Type 0
Passed q i = (v : ℕ) → v < i → q v ≡ false

pub passed_none : (q : ℕ → Bool) → Passed q 0
passed_none q v h = absurd (not-suc-le-zero h)

pub passed-more : (q : ℕ → Bool) (i : ℕ) → Passed q i → q i ≡ false → Passed q (i + 1)
passed-more q i p e v h = ⊎_elim (λ l. p v l) (λ k. ap q k ∙ e) (lt-suc_split (let l : v < suc i = omega arith in l))

-- the lowest is where a search stops, and the bound where it stops nowhere
pub lowest_here : (n : ℕ) (q : ℕ → Bool) (i : ℕ) → Passed q i → i < n → q i ≡ true → i ≡ lowest n q
lowest_here n q i p h e =
    let r = lowest_from_is q 0 n in
    ⊎_elim
    (λ l. absurd (false≢true (sym (r.none_before i zero-le l) ∙ e)))
    (λ l. ⊎_elim (λ m. absurd (clash m r.found)) (λ m. omega arith) (lt_or_le (lowest n q) i))
    (lt_or_le i (lowest n q))
  where
    clash : lowest n q < i → (lowest n q ≡ 0 + n) ⊎ ((lowest n q < 0 + n) × (q (lowest n q) ≡ true)) → ⊥
    clash m (inl k) = omega arith
    clash m (inr k) = false≢true (sym (p (lowest n q) m) ∙ k.1)

pub lowest_past : (n : ℕ) (q : ℕ → Bool) → Passed q n → n ≡ lowest n q
lowest_past n q p = found (lowest_from_is q 0 n).found
  where
    found : (lowest n q ≡ 0 + n) ⊎ ((lowest n q < 0 + n) × (q (lowest n q) ≡ true)) → n ≡ lowest n q
    found (inl k) = omega arith
    found (inr k) = absurd (false≢true (sym (p (lowest n q) (omega (arith, k.0))) ∙ k.1))

pub lowest_bound : (n : ℕ) (q : ℕ → Bool) → lowest n q ≤ n
lowest_bound n q = found (lowest_from_is q 0 n).found
  where
    found : (lowest n q ≡ 0 + n) ⊎ ((lowest n q < 0 + n) × (q (lowest n q) ≡ true)) → lowest n q ≤ n
    found (inl k) = omega arith
    found (inr k) = omega (arith, k.0)

-- a test that no number passes
pub any_passed : (n : ℕ) (q : ℕ → Bool) → Passed q n → any_below n q ≡ false
any_passed n q p =
    ⊎_elim (λ t. let r = any_below_elim n q t in absurd (false≢true (sym (p r.0 r.1) ∙ r.2))) (λ t. t) (true_or_false (any_below n q))

-- a test that all pass
pub all_fails : (n : ℕ) (q : ℕ → Bool) (i : ℕ) → i < n → q i ≡ false → all_below n q ≡ false
all_fails n q i h e = ⊎_elim (λ t. absurd (false≢true (sym e ∙ all_below_elim n q t i h))) (λ t. t) (true_or_false (all_below n q))

-- ---- counting

pub count_same : (q r : ℕ → Bool) (n : ℕ) → ((v : ℕ) → v < n → q v ≡ r v) → count_below q n ≡ count_below r n
count_same q r zero h = refl
count_same q r (suc n) h = omega (arith, count_same q r n (λ v l. h v (omega arith)), ap one (h n (omega arith)))

-- one more passes
pub count_one_more : (q r : ℕ → Bool) (n u : ℕ) → u < n → q u ≡ false → r u ≡ true → ((v : ℕ) → v < n → (v ≡ u → ⊥) → q v ≡ r v) → count_below r n ≡ count_below q n + 1
count_one_more q r zero u l a b h = absurd (not-suc-le-zero l)
count_one_more q r (suc n) u l a b h =
    ⊎_elim
    (λ k. omega (arith, count_one_more q r n u k a b (λ v m. h v (omega arith)), ap one (h n (omega arith) (λ e. omega arith))))
    (λ k. omega (arith, count_same q r n (λ v m. h v (omega arith) (λ e. omega arith)), ap one (ap q (sym k) ∙ a), ap one (ap r (sym k) ∙ b)))
    (lt-suc_split l)

-- not all pass
pub count_less : (q : ℕ → Bool) (n u : ℕ) → u < n → q u ≡ false → count_below q n < n
count_less q zero u l e = absurd (not-suc-le-zero l)
count_less q (suc n) u l e =
    ⊎_elim (λ k. omega (arith, count_less q n u k e, at_most (q n))) (λ k. omega (arith, below_all n, ap one (ap q (sym k) ∙ e))) (lt-suc_split l)
  where
    at_most : (b : Bool) → one b ≤ 1
    at_most true = omega arith
    at_most false = omega arith

    below_all : (m : ℕ) → count_below q m ≤ m
    below_all m = count_below-le q m

pub count_all : (q : ℕ → Bool) (n : ℕ) → ((v : ℕ) → v < n → q v ≡ true) → count_below q n ≡ n
count_all q zero h = refl
count_all q (suc n) h = omega (arith, count_all q n (λ v l. h v (omega arith)), ap one (h n (omega arith)))
