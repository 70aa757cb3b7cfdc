-- How the list of nodes is made: a class is added behind those that stand there. Assumes nothing.
use Rattle.std.specs.Prelude.{◌≡◌, refl, Bool, true, List, ◌++◌, ℕ, ◌+◌, ◌-◌, ◌≤◌, ◌<◌, length, get_or, set, take}
use Rattle.std.proofs.Common.{sym, ap, ◌∙◌, add-one, arith, length-take-le, get_or-take, get_or-set_same, get_or-set_other, below_more}
use Rattle.lists.specs.Lists.{one, count_below, select}
use Rattle.lists.proofs.BelowLaws.{count_below-lt}
use Rattle.lists.proofs.ListsLaws.{get_or_select}
use Rattle.lists.proofs.SelectLaws.{members_count}
use Rattle.netlist.specs.Net.{Net, size}
use Rattle.evaluate.specs.Rows.{row_test}
use Rattle.evaluate.specs.declared.Row.TheVariants.{Inputs, Outputs, State}
use Rattle.schedule.specs.Filled.{filled_front, filled-part}
use Rattle.schedule.specs.Listed.{ListsFrom, inner_at, Listed}

-- h t for each t below n that passes a test, from place k up to place e; what stands before k stays
pub record Added (before after : List ℕ) (k : ℕ) (q : ℕ → Bool) (h : ℕ → ℕ) (n e : ℕ) : Type 0 where
  pub listed : ListsFrom after k q h n
  pub ends : e ≡ k + count_below q n
  pub front : (i : ℕ) → i < k → get_or after i 0 ≡ get_or before i 0

module _ {q : ℕ → Bool} {h : ℕ → ℕ} where
  pub added_none : (l : List ℕ) (k : ℕ) → Added l l k q h 0 k
  added_none l k = record { listed = record { each = λ t b. absurd (omega arith) }; ends = omega arith; front = λ i b. refl }

  -- one number more: it is put behind those that count, and counts or not
  pub added_more : {before after : List ℕ} {k n e x y : ℕ} → Added before after k q h n e → e < length after → x ≡ h n → y ≡ one (q n) → Added before (set after e x) k q h (n + 1) (e + y)
  added_more {after = l} {k} {n} {e} {x} {y} t room is counts = record {
    listed = record {
      each = below_more (λ i. q i ≡ true → get_or (set l e x) (k + count_below q i) 0 ≡ h i) n
          (λ i b on. get_or-set_other l e (k + count_below q i) x 0 (λ d. omega (arith, t.ends, count_below-lt q i n on b)) ∙ t.listed.each i b on)
          (λ on. ap (λ (j : ℕ). get_or (set l e x) j 0) (sym t.ends) ∙ get_or-set_same l e x 0 room ∙ is);
    };
    ends = omega (arith, t.ends, counts, ap (count_below q) (add-one n));
    front = λ i b. get_or-set_other l e i x 0 (λ d. omega (arith, t.ends)) ∙ t.front i b;
  }

  -- a class that stands before stays
  pub added_keeps : {before after : List ℕ} {k n e j m : ℕ} {r : ℕ → Bool} {g : ℕ → ℕ} → Added before after k q h n e → ListsFrom before j r g m → j + count_below r m ≤ k → ListsFrom after j r g m
  added_keeps {j = j} {m} {r} t s low = record { each = λ i b on. t.front (j + count_below r i) (omega (arith, count_below-lt r i m on b)) ∙ s.each i b on }

-- the numbers that pass, where a part of the list was filled with them
module _ (q : ℕ → Bool) (n : ℕ) (l m rest : List ℕ) {k r : ℕ} (e : take r m ≡ select q (λ v. v) n) (fits : r ≤ length m) (low : k ≤ length l) where
  abbrev filled : List ℕ
  filled = take k l ++ (m ++ rest)

  count : r ≡ count_below q n
  count = sym (length-take-le r m fits) ∙ members_count q n e

  at : (i : ℕ) → i < r → get_or filled (k + i) 0 ≡ get_or (take r m) i 0
  at i h = filled-part l m rest k low i (omega arith) ∙ sym (get_or-take r m i 0 h)

  pub added_members : Added l filled k q (λ v. v) n (k + r)
  added_members = record {
    listed = record { each = λ v b on. at (count_below q v) (omega (arith, count, count_below-lt q v n on b)) ∙ ap (λ (y : List ℕ). get_or y (count_below q v) 0) e ∙ get_or_select q (λ u. u) n v 0 b on };
    ends = omega (arith, count);
    front = filled_front l m rest k low;
  }

-- the four classes, one behind the other
pub listed_all : {N : Net} {order l₀ l₁ l₂ l₃ l₄ : List ℕ} {a b c d : ℕ} → Added l₀ l₁ 0 (row_test Inputs N) (λ v. v) (size N) a → Added l₁ l₂ a (row_test State N) (λ v. v) (size N) b
    → Added l₂ l₃ b (inner_at N order) (λ t. get_or order t 0) (size N) c → Added l₃ l₄ c (row_test Outputs N) (λ v. v) (size N) d
    → Listed N order l₄ (record { inputs = a; held = b - a; lines = c; outputs = d - c })
listed_all {a = a} {b} p s i o = record {
  ports = added_keeps o (added_keeps i (added_keeps s p.listed (omega arith)) (omega arith)) (omega arith);
  holders = added_keeps o (added_keeps i s.listed (omega arith)) (omega arith);
  inner = let back : a + (b - a) ≡ b = omega (arith, s.ends) in rw back (added_keeps o i.listed (omega (arith, i.ends)));
  outputs = o.listed;
  all_ports = omega (arith, p.ends);
  all_holders = omega (arith, s.ends);
  all_inner = omega (arith, s.ends, i.ends);
  all_outputs = omega (arith, o.ends);
}
