-- Laws of what specs/Logic.antt defines. Assumes nothing.
use Rattle.std.specs.Prelude.{◌≡◌, ◌↔◌, false, ℕ, ◌≤◌, ◌<◌}
use Rattle.std.proofs.Common.{sym, ap, ◌∙◌, true≢false, zero-le, le_refl, arith}
use Rattle.netlist.specs.declared.Element.{Element}
use Rattle.netlist.specs.declared.Element.TheVariants.{Input, Output, Register, Async, Clocked, Gate}
use Rattle.netlist.specs.Net.{Net, size, element_at, source, operands, is_output, within_clock, within_few, in_clock}
use Rattle.netlist.specs.Rank.{ReadsIn, Through, once, then}
use Rattle.netlist.specs.Logic.{logic_of, in_logic}

logic_within : (e : Element) → logic_of e ≤ within_clock e
logic_within Input = zero-le
logic_within Output = zero-le
logic_within (Register r) = zero-le
logic_within (Async m) = le_refl _
logic_within (Clocked m r) = zero-le
logic_within (Gate o) = le_refl _

within_logic : (e : Element) → is_output e ≡ false → within_clock e ≤ logic_of e
within_logic Input h = zero-le
within_logic Output h = absurd (true≢false h)
within_logic (Register r) h = zero-le
within_logic (Async m) h = le_refl _
within_logic (Clocked m r) h = zero-le
within_logic (Gate o) h = le_refl _

module _ (N : Net) (unread : (v p : ℕ) → v < size N → p < operands (element_at N v) → is_output (element_at N (source N v p)) ≡ false) where
  no_output : {x u : ℕ} → ReadsIn in_clock N x u → is_output (element_at N u) ≡ false
  no_output {x} {u} r = ap (λ (k : ℕ). is_output (element_at N k)) (sym r.from) ∙ unread x r.operand r.inside (omega (arith, r.used, within_few (element_at N x)))

  step_logic : {x u : ℕ} → is_output (element_at N x) ≡ false → ReadsIn in_clock N x u → ReadsIn in_logic N x u
  step_logic {x} h r = record { operand = r.operand; inside = r.inside; used = omega (arith, r.used, within_logic (element_at N x) h); from = r.from }

  step_clock : {x u : ℕ} → ReadsIn in_logic N x u → ReadsIn in_clock N x u
  step_clock {x} r = record { operand = r.operand; inside = r.inside; used = omega (arith, r.used, logic_within (element_at N x)); from = r.from }

  to_logic : {u v : ℕ} → is_output (element_at N v) ≡ false → Through in_clock N u v → Through in_logic N u v
  to_logic h (once r) = once (step_logic h r)
  to_logic h (then w r) = then (to_logic (no_output r) w) (step_logic h r)

  to_clock : {u v : ℕ} → Through in_logic N u v → Through in_clock N u v
  to_clock (once r) = once (step_clock r)
  to_clock (then w r) = then (to_clock w) (step_clock r)

  first_read : {u v : ℕ} → Through in_clock N u v → is_output (element_at N u) ≡ false
  first_read (once r) = no_output r
  first_read (then w r) = first_read w

  -- THE LAW
  pub through_logic : (v : ℕ) → Through in_clock N v v ↔ Through in_logic N v v
  through_logic v = (λ w. to_logic (first_read w) w, to_clock)
