-- What a code tells a line: whether its node is an inner one, the width that it asks for, and whether it has a table. Assumes nothing.
use Rattle.std.specs.Prelude.{◌≡◌, refl, ◌⊎◌, Bool, true, false, cond, ℕ, ◌≤◌, ◌<◌, eqb}
use Rattle.std.proofs.Common.{sym, ap, ◌∙◌, ⊎_elim, true≢false, arith, eq-eqb, ne_eqb}
use Rattle.words.specs.declared.Op.TheVariants.{Constant, Not, And, Or, Xor, Add, Subtract, Equal, Less, Choose, Part, Join}
use Rattle.netlist.specs.declared.Element.{Element}
use Rattle.netlist.specs.declared.Element.TheVariants.{Input, Output, Register, Async, Clocked, Gate}
use Rattle.netlist.specs.Net.{is_memory}
use Rattle.circuit.specs.Code.{code_of, number_or, table_or}
use Rattle.schedule.specs.Lines.{asked_by, Holds, is_inner}

-- a code below those of the gates
pub low_inner : (e : Element) → code_of e < 8 → eqb (code_of e) 3 ≡ is_inner e
low_inner Input h = refl
low_inner Output h = refl
low_inner (Register r) h = refl
low_inner (Async m) h = refl
low_inner (Clocked m r) h = refl
low_inner (Gate o) h = absurd (omega arith)

pub gate_inner : (e : Element) → 8 ≤ code_of e → is_inner e ≡ true
gate_inner Input h = absurd (omega arith)
gate_inner Output h = absurd (omega arith)
gate_inner (Register r) h = absurd (omega arith)
gate_inner (Async m) h = refl
gate_inner (Clocked m r) h = absurd (omega arith)
gate_inner (Gate o) h = refl

module _ (own low : ℕ) where
  asked_code : (e : Element) → asked_by e own low ≡ cond (eqb (code_of e) 19) low own
  asked_code Input = refl
  asked_code Output = refl
  asked_code (Register r) = refl
  asked_code (Async m) = refl
  asked_code (Clocked m r) = refl
  asked_code (Gate (Constant c)) = refl
  asked_code (Gate Not) = refl
  asked_code (Gate And) = refl
  asked_code (Gate Or) = refl
  asked_code (Gate Xor) = refl
  asked_code (Gate Add) = refl
  asked_code (Gate Subtract) = refl
  asked_code (Gate Equal) = refl
  asked_code (Gate Less) = refl
  asked_code (Gate Choose) = refl
  asked_code (Gate (Part b)) = refl
  asked_code (Gate Join) = refl

  pub join_asks : (e : Element) → code_of e ≡ 19 → low ≡ asked_by e own low
  join_asks e h = sym (asked_code e ∙ ap (λ (b : Bool). cond b low own) (eq-eqb (code_of e) 19 h))

  pub other_asks : (e : Element) → (code_of e ≡ 19 → ⊥) → own ≡ asked_by e own low
  other_asks e h = sym (asked_code e ∙ ap (λ (b : Bool). cond b low own) (ne_eqb (code_of e) 19 h))

-- the codes of the two memories
memory_code : (e : Element) → 3 ≤ code_of e → code_of e < 5 → is_memory e ≡ true
memory_code Input a b = absurd (omega arith)
memory_code Output a b = absurd (omega arith)
memory_code (Register r) a b = absurd (omega arith)
memory_code (Async m) a b = refl
memory_code (Clocked m r) a b = refl
memory_code (Gate o) a b = absurd (omega arith)

other_code : (e : Element) → (code_of e < 3) ⊎ (5 ≤ code_of e) → is_memory e ≡ false
other_code Input h = refl
other_code Output h = refl
other_code (Register r) h = refl
other_code (Async m) h = absurd (⊎_elim (λ l. omega arith) (λ l. omega arith) h)
other_code (Clocked m r) h = absurd (⊎_elim (λ l. omega arith) (λ l. omega arith) h)
other_code (Gate o) h = refl

module _ (e : Element) {x : ℕ} where
  pub memory_holds : 3 ≤ code_of e → code_of e < 5 → x ≡ table_or x e → Holds e x
  memory_holds a b q = record { table = λ m. q; number = λ m. absurd (true≢false (sym (memory_code e a b) ∙ m)) }

  pub other_holds : (code_of e < 3) ⊎ (5 ≤ code_of e) → x ≡ number_or x e → Holds e x
  other_holds h q = record { table = λ m. absurd (true≢false (sym m ∙ other_code e h)); number = λ m. q }
