-- The wires of an entry, operand by operand: their places among the new wires, as the code reads them. Assumes nothing.
use Rattle.std.specs.Prelude.{◌≡◌, List, ℕ, zero, suc, ◌+◌, ◌-◌, ◌*◌, ◌/◌, ◌%◌, ◌≤◌, ◌<◌, get_or}
use Rattle.std.proofs.Common.{sym, ap, ap₂, subst, ◌∙◌, arith}
use Rattle.lists.proofs.Sections.{section-read}
use Rattle.netlist.specs.Net.{Net, element_at, source, operands}
use Rattle.netlist.proofs.NodeLaws.{few_operands}
use Rattle.retiming.specs.Rewrite.{Timing}
use Rattle.plan.specs.Areas.{owners_in}
use Rattle.plan.specs.Registers.{entry_count}

-- operand p of entry e, whose old node is x: a node has at most three operands, so entry and operand tell the place, and the place tells them
pub record OperandAt (N : Net) (f : Timing) (plan : List ℕ) (e p x : ℕ) : Type 0 where
  pub few : p < 3
  pub within : 3 * e + p < 3 * entry_count N f
  pub reader : x ≡ get_or (owners_in plan) ((3 * e + p) / 3) 0
  pub operand : p ≡ (3 * e + p) % 3
  pub there : (3 * e + p) % 3 < operands (element_at N (get_or (owners_in plan) ((3 * e + p) / 3) 0))
  pub from : source N x p ≡ source N (get_or (owners_in plan) ((3 * e + p) / 3) 0) ((3 * e + p) % 3)

module _ (N : Net) (f : Timing) {e : ℕ} (h : e < entry_count N f) where
  -- the old node as the code reads it
  pub owner_is : (plan : List ℕ) {x : ℕ} → entry_count N f ≤ 1024 → x ≡ get_or plan e 0 → x ≡ get_or (owners_in plan) e 0
  owner_is plan few q = q ∙ ap (λ (i : ℕ). get_or plan i 0) (let z : e ≡ 0 + e = omega arith in z) ∙ sym (section-read 0 1024 plan e (omega arith))

  pub operand_at : (plan : List ℕ) {p x : ℕ} → entry_count N f ≤ 1024 → p < operands (element_at N (get_or (owners_in plan) e 0)) → x ≡ get_or plan e 0 → OperandAt N f plan e p x
  operand_at plan {p} {x} few o xe =
      let l : p < 3 = omega (arith, o, few_operands (element_at N (get_or (owners_in plan) e 0))) in
      let a : e ≡ (3 * e + p) / 3 = omega arith in
      let b : p ≡ (3 * e + p) % 3 = omega arith in
      let r = owner_is plan few xe ∙ ap (λ (i : ℕ). get_or (owners_in plan) i 0) a in
      record {
        few = l;
        within = omega arith;
        reader = r;
        operand = b;
        there = subst (λ (q : ℕ). q < operands (element_at N (get_or (owners_in plan) ((3 * e + p) / 3) 0))) b (subst (λ (i : ℕ). p < operands (element_at N (get_or (owners_in plan) i 0))) a o);
        from = ap₂ (source N) r b;
      }

-- what holds up to the last operand of an entry, and stays at a place without an operand, holds up to the next entry
module _ (N : Net) (owners : List ℕ) (e : ℕ) (P : ℕ → Type 0)
    (stays : (m : ℕ) → m < 3 * e + 3 → operands (element_at N (get_or owners (m / 3) 0)) ≤ m % 3 → P m → P (m + 1)) where
  -- from place q on, n places
  rest_from : (n q : ℕ) → q + n ≡ 3 → operands (element_at N (get_or owners e 0)) ≤ q → P (3 * e + q) → P (3 * e + 3)
  rest_from zero q s l d = subst P (let z : 3 * e + q ≡ 3 * e + 3 = omega arith in z) d
  rest_from (suc n) q s l d =
      let a : e ≡ (3 * e + q) / 3 = omega arith in
      let b : q ≡ (3 * e + q) % 3 = omega arith in
      let none = subst (λ (i : ℕ). operands (element_at N (get_or owners i 0)) ≤ (3 * e + q) % 3) a (subst (λ (i : ℕ). operands (element_at N (get_or owners e 0)) ≤ i) b l) in
      rest_from n (q + 1) (omega arith) (omega arith) (subst P (let z : 3 * e + q + 1 ≡ 3 * e + (q + 1) = omega arith in z) (stays (3 * e + q) (omega arith) none d))

  pub rest_of : {n : ℕ} → n ≡ operands (element_at N (get_or owners e 0)) → P (3 * e + n) → P (3 * e + 3)
  rest_of {n} q d = rest_from (3 - n) n (omega (arith, q, few_operands (element_at N (get_or owners e 0)))) (omega arith) d
