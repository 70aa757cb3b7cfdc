-- The late start's timing serves the netlist where 11 and 12 do not apply: so the late-started netlist is alike to the old one, and has no asynchronous ROM.
-- Assumes nothing.
use Rattle.std.specs.Prelude.{◌≡◌, Bool, ℕ, ◌≤◌, ◌<◌, ltb}
use Rattle.std.proofs.Math.Path.{refl}
use Rattle.std.proofs.Common.{sym, ap, ◌∙◌, true≢false, arith, lt-ltb, ltb-true}
use Rattle.std.proofs.Math.Logic.{⊎_elim}
use Rattle.std.proofs.Math.Bool.{true, false}
use Rattle.std.proofs.lemmas.Bool.{false≢true}
use Rattle.netlist.specs.declared.Element.{Element}
use Rattle.netlist.specs.declared.Element.TheVariants.{Input, Output, Register, Async, Clocked, Gate}
use Rattle.lists.proofs.BelowLaws.{true_or_false, lt_or_le, any_below_none}
use Rattle.netlist.specs.Net.{Net, size, element_at, operands, is_input, is_output}
use Rattle.netlist.specs.Reach.{Reads}
use Rattle.netlist.specs.Checks.{WellFormed}
use Rattle.behaviour.proofs.Meaning.{settles}
use Rattle.retiming.specs.Leads.{Walk, here, step}
use Rattle.retiming.proofs.Walks.{reads_inside}
use Rattle.retiming.specs.Rewrite.{Timing}
use Rattle.retiming.specs.LateLeads.{at_output, late_ends, origin, Counts, lead_to, closed_debt_to, owing_port_to, port_debt_to}
use Rattle.retiming.proofs.LateLeadsLaws.{lead_serves, lead-back, lead_reached, origin_positive, counts_lead, lead-unread}
use Rattle.retiming.specs.LateRewrite.{timing_to_by, timing_to, late_timing}
use Rattle.retiming.specs.Wires.{ServesKept}
use Rattle.retiming.proofs.Wires.{ringless_rooted}
use Rattle.retiming.specs.Candidate.{Retimes}
use Rattle.retiming.proofs.Rules.{registers_fit}

-- where walks that count may end: at output ports, and at nodes from a reader of which a walk counts
pub record Ends (N : Net) (ends : ℕ → Bool) : Type 0 where
  pub outputs : (v : ℕ) → v < size N → is_output (element_at N v) ≡ true → ends v ≡ true
  pub others : (v : ℕ) → v < size N → ends v ≡ true → is_input (element_at N v) ≡ false → is_output (element_at N v) ≡ false → (x : ℕ) × Reads N x v × Counts N ends x

input_idle : (e : Element) → is_input e ≡ true → operands e ≡ 0
input_idle Input h = refl
input_idle Output h = absurd (false≢true h)
input_idle (Register r) h = absurd (false≢true h)
input_idle (Async m) h = absurd (false≢true h)
input_idle (Clocked m r) h = absurd (false≢true h)
input_idle (Gate o) h = absurd (false≢true h)

output_no_input : (e : Element) → is_output e ≡ true → is_input e ≡ false
output_no_input Input h = absurd (false≢true h)
output_no_input Output h = refl
output_no_input (Register r) h = refl
output_no_input (Async m) h = refl
output_no_input (Clocked m r) h = refl
output_no_input (Gate o) h = refl

module _ (N : Net) (ends : ℕ → Bool) (wf : WellFormed N) (e : Ends N ends) (debtless : closed_debt_to N ends ≡ false) (portless : port_debt_to N ends ≡ false) where
  abbrev pub f : Timing
  f = timing_to N ends

  lead_input : (v : ℕ) → is_input (element_at N v) ≡ true → (f.lead v ≡ origin N) × (f.keeps v ≡ true)
  unfolding timing_to timing_to_by
  lead_input v i = (rw i, rw i)

  lead_other : (v : ℕ) → is_input (element_at N v) ≡ false → (f.lead v ≡ lead_to N ends v) × (f.keeps v ≡ ltb 0 (lead_to N ends v))
  unfolding timing_to timing_to_by lead_to
  lead_other v i = (rw i, rw i)

  origin_is : f.origin ≡ origin N
  unfolding timing_to timing_to_by
  origin_is = refl

  kept_if : (v : ℕ) → 0 < lead_to N ends v → f.keeps v ≡ true
  kept_if v l = ⊎_elim (λ i. (lead_input v i).1) (λ i. (lead_other v i).1 ∙ lt-ltb 0 (lead_to N ends v) l) (true_or_false (is_input (element_at N v)))

  kept_only : (v : ℕ) → is_input (element_at N v) ≡ false → f.keeps v ≡ true → 0 < lead_to N ends v
  kept_only v i k = ltb-true 0 (lead_to N ends v) (sym (lead_other v i).1 ∙ k)

  -- an input port owes nothing
  input_low : (v : ℕ) → v < size N → is_input (element_at N v) ≡ true → lead_to N ends v ≤ origin N
  unfolding port_debt_to owing_port_to
  input_low v h i =
      ⊎_elim (λ l. absurd (true≢false (sym (owing l) ∙ any_below_none (size N) (owing_port_to N ends) portless v h))) (λ l. l) (lt_or_le (origin N) (lead_to N ends v))
    where
      owing : origin N < lead_to N ends v → owing_port_to N ends v ≡ true
      owing l = rw i (lt-ltb (origin N) (lead_to N ends v) l)

  reader_no_input : (x u : ℕ) → Reads N x u → is_input (element_at N x) ≡ false
  reader_no_input x u r = ⊎_elim (λ t. absurd (omega (arith, r.used, input_idle (element_at N x) t))) (λ t. t) (true_or_false (is_input (element_at N x)))

  timing_serves : ServesKept N f
  unfolding ServesKept
  timing_serves x u r k =
      let i : is_input (element_at N x) ≡ false = reader_no_input x u r in
      let pos : 0 < lead_to N ends x = kept_only x i k in (
        kept_if u (lead-back N ends wf.sourced debtless r pos),
        ⊎_elim
            (λ t. omega (arith, lead_serves N ends wf.sourced debtless r pos, (lead_other x i).0, (lead_input u t).0, input_low u (reads_inside wf.sourced r) t))
            (λ t. omega (arith, lead_serves N ends wf.sourced debtless r pos, (lead_other x i).0, (lead_other u t).0)) (true_or_false (is_input (element_at N u))),
      )

  output_lead : (v : ℕ) → v < size N → is_output (element_at N v) ≡ true → lead_to N ends v ≡ origin N
  output_lead v h o =
      lead-unread N ends v h (e.outputs v h o) (λ x r. true≢false (sym o ∙ ap (λ (u : ℕ). is_output (element_at N u)) (sym r.from) ∙ wf.outputs_unread x r.operand r.inside r.used))

  on_walk : {v z : ℕ} (w : Walk N v z) → v < size N → ends z ≡ true → is_input (element_at N v) ≡ false → is_output (element_at N v) ≡ false → (x : ℕ) × Reads N x v × Counts N ends x
  on_walk {v} (here k) h a i o = e.others v h (ap ends k ∙ a) i o
  on_walk {v} {z} (step {x = x} r w) h a i o = (x, r, record { end = z; walk = w; ending = a })

  kept_read : (v : ℕ) → v < size N → f.keeps v ≡ true → is_input (element_at N v) ≡ false → is_output (element_at N v) ≡ false → (x : ℕ) × Reads N x v × (f.keeps x ≡ true)
  kept_read v h k i o =
      let r = lead_reached N ends v h (kept_only v i k) in
      let s = on_walk r.1 h r.2 i o in
      (s.0, s.1, kept_if s.0 (counts_lead N ends wf.sourced debtless s.0 s.1.inside s.2))

  pub retimes : Retimes N (timing_to N ends)
  retimes = record {
    sourced = wf.sourced;
    settles = settles N wf;
    fit = registers_fit N wf;
    rooted = ringless_rooted N wf.sourced wf.no_ring;
    serves = timing_serves;
    inputs = λ v h i. (lead_input v i).0 ∙ sym origin_is;
    outputs = λ v h o. (lead_other v (output_no_input (element_at N v) o)).0 ∙ output_lead v h o ∙ sym origin_is;
    inputs_stay = λ v h i. (lead_input v i).1;
    outputs_stay = λ v h o. kept_if v (omega (arith, output_lead v h o, origin_positive N ends));
    read = kept_read;
  }

-- "to an output port"
pub late-ends : (N : Net) → Ends N (late_ends N)
unfolding late_ends at_output
late-ends N = record { outputs = λ v h o. o; others = λ v h a i o. absurd (true≢false (sym a ∙ o)) }

module _ (N : Net) (wf : WellFormed N) (debtless : closed_debt_to N (late_ends N) ≡ false) (portless : port_debt_to N (late_ends N) ≡ false) where
  pub late_retimes : Retimes N (late_timing N)
  unfolding late_timing
  late_retimes = retimes N (late_ends N) wf (late-ends N) debtless portless

  -- from which an output port can be reached
  pub late_kept : (u : ℕ) → u < size N → Counts N (at_output N) u → (late_timing N).keeps u ≡ true
  unfolding late_timing late_ends
  late_kept u h c = kept_if N (late_ends N) wf (late-ends N) debtless portless u (counts_lead N (late_ends N) wf.sourced debtless u h c)
