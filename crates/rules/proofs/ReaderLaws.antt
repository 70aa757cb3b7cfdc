-- Check 8, over plain values. Assumes nothing.
use mathlib.Core.Path.{◌≡◌, refl, sym, ap, subst, ◌∙◌}
use mathlib.Core.Logic.{⊎_elim}
use mathlib.Core.Bool.{Bool, true, false, not, cond, ◌||◌, ◌&&◌}
use mathlib.Core.List.{List}
use Prim.Native.Nat.{ℕ, suc, ◌+◌, ◌≤◌, ◌<◌}
use native.Mathlib.Nat.{not-suc-le-zero}
use native.Mathlib.Omega.{arith}
use native.Mathlib.Numerals.{add-one}
use lib.ListN.{length, get_or, set, length-set}
use lib.Seq.{get_or-set_same, get_or-set_other}
use lib.Dec.{eqb, ltb}
use borrow.Author.Tests.{lt-ltb}
use Rattle.lists.specs.Lists.{any_below, one}
use Rattle.lists.proofs.BelowLaws.{true_or_false, lt_or_le, eqb-true, eqb_differ, any_below_intro}
use Rattle.netlist.specs.Net.{Net, size, element_at, source, operands, is_input, is_output}
use Rattle.netlist.specs.Reach.{reads_test}
use Rattle.netlist.specs.Verdict.{unread}
use Rattle.netlist.specs.declared.Element.{Element}
use Rattle.netlist.specs.declared.Element.TheVariants.{Input, Output, Register, Async, Clocked, Gate}
use Rattle.netlist.specs.NodeField.{op_number}
use Rattle.circuit.specs.Code.{code_of}
use Rattle.rules.specs.OrFirst.{OrFirst}
use Rattle.rules.specs.Marks.{Marks, Marked}

pub marked_none : (sources : ℕ → ℕ) (l : List ℕ) → Marked sources 0 l l
marked_none sources l = record { kept = refl; each = λ u h. refl }

-- a mark more
pub mark_at : (l : List ℕ) (k u : ℕ) → u < length l → get_or (set l k 1) u 0 ≡ cond (eqb k u) 1 (get_or l u 0)
mark_at l k u h =
    ⊎_elim
    (λ t. ap (λ (j : ℕ). get_or (set l j 1) u 0) (eqb-true t) ∙ get_or-set_same l u 1 0 h ∙ sym (ap (λ (b : Bool). cond b 1 (get_or l u 0)) t))
    (λ t. get_or-set_other l k u 1 0 (λ e. eqb_differ t (sym e)) ∙ sym (ap (λ (b : Bool). cond b 1 (get_or l u 0)) t))
    (true_or_false (eqb k u))

either : (q a : Bool) (x : ℕ) → cond q 1 (cond a 1 x) ≡ cond (q || a) 1 x
either true a x = refl
either false a x = refl

-- one source more
pub marked_more : {sources : ℕ → ℕ} {before after : List ℕ} {p : ℕ} → Marked sources p before after → Marked sources (p + 1) before (set after (sources p) 1)
marked_more {sources} {before} {after} {p} m = record {
  kept = length-set after (sources p) 1 ∙ m.kept;
  each = λ u h. step u h ∙ ap (λ (k : ℕ). cond (any_below k (λ i. eqb (sources i) u)) 1 (get_or before u 0)) (sym (add-one p));
}
  where
    step : (u : ℕ) → u < length before → get_or (set after (sources p) 1) u 0 ≡ cond (any_below (suc p) (λ i. eqb (sources i) u)) 1 (get_or before u 0)
    step u h = mark_at after (sources p) u (omega (arith, m.kept)) ∙ ap (cond (eqb (sources p) u) 1) (m.each u h) ∙ either (eqb (sources p) u) (any_below p (λ i. eqb (sources i) u)) (get_or before u 0)

-- a source marked again
marked-again : {sources : ℕ → ℕ} {before after : List ℕ} {p : ℕ} → Marked sources p before after → (j : ℕ) → j < p → Marked sources p before (set after (sources j) 1)
marked-again {sources} {before} {after} {p} m j l = record {
  kept = length-set after (sources j) 1 ∙ m.kept;
  each = λ u h.
      ⊎_elim
      (λ t. ap (λ (k : ℕ). get_or (set after k 1) u 0) (eqb-true t) ∙ get_or-set_same after u 1 0 (omega (arith, m.kept)) ∙ ap (λ (b : Bool). cond b 1 (get_or before u 0)) (sym (any_below_intro p (λ i. eqb (sources i) u) j l t)))
      (λ t. get_or-set_other after (sources j) u 1 0 (λ e. eqb_differ t (sym e)) ∙ m.each u h)
      (true_or_false (eqb (sources j) u));
}

-- three marks, the first again where there are fewer sources
module _ (sources : ℕ → ℕ) (before : List ℕ) {n second third : ℕ} (a : OrFirst 1 n second) (b : OrFirst 2 n third) (some : 0 < n) (few : n ≤ 3) where
  three_at : Marked sources n before (set (set (set before (sources 0) 1) (sources second) 1) (sources third) 1)
  three_at =
      ⊎_elim
      (λ l. ⊎_elim
      (λ h. moved 3 1 2 (omega arith) (a.here l) (b.here h) (marked_more (marked_more once)))
      (λ h. moved 2 1 0 (omega arith) (a.here l) (b.first h) (marked-again (marked_more once) 0 (omega arith)))
      (lt_or_le 2 n))
      (λ l. moved 1 0 0 (omega arith) (a.first l) (b.first (omega arith)) (marked-again (marked-again once 0 (omega arith)) 0 (omega arith)))
      (lt_or_le 1 n)
    where
      once : Marked sources 1 before (set before (sources 0) 1)
      once = marked_more (marked_none sources before)

      moved : (k p q : ℕ) → n ≡ k → second ≡ p → third ≡ q → Marked sources k before (set (set (set before (sources 0) 1) (sources p) 1) (sources q) 1)
          → Marked sources n before (set (set (set before (sources 0) 1) (sources second) 1) (sources third) 1)
      moved k p q e f g m = rw e (rw f (rw g m))

  pub marked-three : {x y z : List ℕ} {i j k : ℕ} → x ≡ set before i 1 → i ≡ sources 0 → y ≡ set x j 1 → j ≡ sources second → z ≡ set y k 1 → k ≡ sources third → Marked sources n before z
  marked-three {x} {y} {z} {i} {j} {k} e f g h u v =
      let told : z ≡ set (set (set before (sources 0) 1) (sources second) 1) (sources third) 1 = cc in
      subst (λ (l : List ℕ). Marked sources n before l) (sym told) three_at

pub one_of : (q a : Bool) → cond q 1 (one a) ≡ one (q || a)
one_of true a = refl
one_of false a = refl

hidden : (port any : Bool) → 0 < one any → false ≡ (not port && not any)
hidden true any h = refl
hidden false true h = refl
hidden false false h = absurd (not-suc-le-zero h)

shown : (port any : Bool) → one any ≤ 0 → not port ≡ (not port && not any)
shown true any h = refl
shown false true h = absurd (not-suc-le-zero h)
shown false false h = refl

-- a port is told by its code
port_code : (e : Element) → ltb 1 (code_of e) ≡ not (is_input e || is_output e)
port_code Input = refl
port_code Output = refl
port_code (Register r) = refl
port_code (Async m) = refl
port_code (Clocked m r) = refl
port_code (Gate o) = lt-ltb 1 (8 + op_number o) (omega arith)

module _ (N : Net) where
  pub marks_more : {before after : List ℕ} {x n : ℕ} → n ≡ operands (element_at N x) → Marks N before x → Marked (source N x) n before after → Marks N after (x + 1)
  unfolding reads_test
  marks_more {before} {after} {x} {n} k m w = record {
    room = let r = m.room in let l = w.kept in omega arith;
    each = λ u h.
        w.each u (let r = m.room in omega arith)
        ∙ ap (λ (j : ℕ). cond (any_below j (λ p. eqb (source N x p) u)) 1 (get_or before u 0)) k
        ∙ ap (cond (reads_test N x u) 1) (m.each u h)
        ∙ one_of (reads_test N x u) (any_below x (λ z. reads_test N z u))
        ∙ ap (λ (j : ℕ). one (any_below j (λ z. reads_test N z u))) (sym (add-one x));
  }

  module _ {marks : List ℕ} (m : Marks N marks (size N)) (v : ℕ) (h : v < size N) where
    counted : get_or marks v 0 ≡ one (any_below (size N) (λ z. reads_test N z v))
    counted = m.each v h

    pub read : 0 < get_or marks v 0 → false ≡ unread N v
    unfolding unread
    read l = hidden (is_input (element_at N v) || is_output (element_at N v)) (any_below (size N) (λ z. reads_test N z v)) (omega (arith, counted))

    pub unmarked : get_or marks v 0 ≤ 0 → (k : ℕ) → k ≡ code_of (element_at N v) → ltb 1 k ≡ unread N v
    unfolding unread
    unmarked l k q =
        ap (ltb 1) q ∙ port_code (element_at N v)
        ∙ shown (is_input (element_at N v) || is_output (element_at N v)) (any_below (size N) (λ z. reads_test N z v)) (omega (arith, counted))
