-- The number of each table once the unmarked ones are left out. Assumes nothing.
use Rattle.std.specs.Prelude.{◌≡◌, refl, Bool, List, ℕ, ◌+◌, ◌≤◌, ◌<◌, length, get_or, set, ltb}
use Rattle.std.proofs.Common.{sym, ap, ◌∙◌, ⊎_elim, not-suc-le-zero, add-one, arith, length-set, get_or-set_same, get_or-set_other, lt-ltb, le-ltb, below_more}
use Rattle.std.proofs.Math.ListN.{get_or-eq_default}
use Rattle.lists.specs.Lists.{one, count_below}
use Rattle.lists.proofs.BelowLaws.{lt_or_le, count_below-le}

abbrev pub marked : List ℕ → ℕ → Bool
marked marks t = ltb 0 (get_or marks t 0)

-- the first x tables are numbered
pub record Numbered (marks numbers : List ℕ) (x : ℕ) : Type 0 where
  pub each : (m : ℕ) → m < x → get_or numbers m 0 ≡ count_below (marked marks) m

-- THE INVARIANT: and the marked ones of them are counted
pub record Numbering (marks numbers : List ℕ) (x count : ℕ) : Type 0 where
  pub sixteen : length numbers ≡ 16
  pub below : x ≤ 16
  pub counted : count ≡ count_below (marked marks) x
  pub numbered : Numbered marks numbers x

pub numbering_none : (marks numbers : List ℕ) → length numbers ≡ 16 → Numbering marks numbers 0 0
numbering_none marks numbers e = record { sixteen = e; below = omega arith; counted = refl; numbered = record { each = λ m h. absurd (not-suc-le-zero h) } }

module _ {marks numbers : List ℕ} {x count : ℕ} (t : Numbering marks numbers x count) where
  pub count_few : count ≤ x
  count_few = omega (arith, t.counted, count_below-le (marked marks) x)

  -- one table more, with its mark
  more : {n : ℕ} → x < 16 → n ≡ count + one (marked marks x) → Numbering marks (set numbers x count) (x + 1) n
  more h e = record {
    sixteen = length-set numbers x count ∙ t.sixteen;
    below = omega arith;
    counted = e ∙ ap (λ (k : ℕ). k + one (marked marks x)) t.counted ∙ sym (ap (count_below (marked marks)) (add-one x));
    numbered = record {
      each = below_more _ x (λ m l. get_or-set_other numbers x m count 0 (λ q. omega arith) ∙ t.numbered.each m l) (get_or-set_same numbers x count 0 (omega (arith, t.sixteen)) ∙ t.counted);
    };
  }

  pub numbering_more : x < 16 → 0 < get_or marks x 0 → Numbering marks (set numbers x count) (x + 1) (count + 1)
  numbering_more h l = more h (sym (ap (λ (b : Bool). count + one b) (lt-ltb 0 (get_or marks x 0) l)))

  pub numbering_past : x < 16 → get_or marks x 0 ≤ 0 → Numbering marks (set numbers x count) (x + 1) count
  numbering_past h l = more h (omega (arith, ap one (le-ltb 0 (get_or marks x 0) l)))

-- the numbers are small, past the last too
pub numbers_small : {marks numbers : List ℕ} → length numbers ≡ 16 → Numbered marks numbers 16 → (m : ℕ) → get_or numbers m 0 < 256
numbers_small {marks} {numbers} e t m =
    ⊎_elim (λ l. omega (arith, t.each m l, count_below-le (marked marks) m)) (λ l. omega (arith, get_or-eq_default numbers 0 {n = m} (omega arith))) (lt_or_le m 16)
