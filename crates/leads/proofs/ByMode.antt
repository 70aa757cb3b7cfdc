-- What the mode decides: where walks may end, what 11 and 12 ask, and the leads of the timing, over plain values. Assumes nothing.
use mathlib.Core.Path.{◌≡◌, refl, sym, ap, subst, ◌∙◌}
use mathlib.Core.Logic.{⊎_elim}
use mathlib.Core.Bool.{Bool, true, false, cond, ◌&&◌}
use mathlib.Core.List.{List}
use Prim.Native.Nat.{ℕ, ◌+◌, ◌<◌}
use native.Mathlib.Omega.{arith}
use lib.ListN.{get_or}
use lib.Dec.{ltb, eqb}
use Rattle.lists.specs.Lists.{one}
use Rattle.lists.proofs.BelowLaws.{true_or_false, one_eqb}
use Rattle.netlist.specs.Net.{Net, size, element_at, is_input, is_output, Sourced}
use Rattle.retiming.specs.Leads.{lead, closed_debt}
use Rattle.retiming.specs.Rewrite.{timing, timing_by}
use Rattle.retiming.specs.LateLeads.{at_output, late_ends, origin, first_lead, lead_to, closed_debt_to, owing_port_to}
use Rattle.retiming.specs.LateRewrite.{timing_to_by, timing_to, late_timing}
use Rattle.retiming.specs.Anywhere.{anywhere}
use Rattle.retiming.proofs.Anywhere.{closed_same, lead_same, owing_same}
use Rattle.retiming.specs.declared.Mode.{Mode}
use Rattle.retiming.specs.declared.Mode.TheVariants.{Plain, Late}
use Rattle.retiming.specs.Modes.{mode_ends, mode_closed, mode_owing, mode_timing}
use Rattle.leads.specs.Debts.{owing_by}

-- ---- where walks may end

module _ (N : Net) {mode : Mode} (v : ℕ) where
  pub ends_plain : mode ≡ Plain → true ≡ mode_ends mode N v
  ends_plain k = ap (λ (m : Mode). mode_ends m N v) (sym k)

  pub ends-late : {bit : ℕ} → mode ≡ Late → bit ≡ one (is_output (element_at N v)) → eqb bit 1 ≡ mode_ends mode N v
  unfolding late_ends at_output
  ends-late k b = ap (λ (j : ℕ). eqb j 1) b ∙ one_eqb (is_output (element_at N v)) ∙ ap (λ (m : Mode). mode_ends m N v) (sym k)

-- ---- where the search begins

pub origin_is : (N : Net) {n : ℕ} → n ≡ size N → n + 2 ≡ origin N
unfolding origin
origin_is N e = omega arith

-- the empty walk's number
pub first_is : (N : Net) (ends : ℕ → Bool) (v : ℕ) {base x : ℕ} {counts : Bool} → base ≡ origin N → counts ≡ ends v → x ≡ cond counts base 0 → x ≡ first_lead N ends v
unfolding first_lead
first_is N ends v {base} b c e = e ∙ ap (λ (k : Bool). cond k base 0) c ∙ ap (λ (m : ℕ). cond (ends v) m 0) b

module _ (N : Net) (sourced : Sourced N) where
  -- ---- 11 and 12

  pub closed_by : (mode : Mode) → closed_debt_to N (mode_ends mode N) ≡ mode_closed mode N
  closed_by Plain = closed_same N sourced
  closed_by Late = refl

  pub owing_to : (mode : Mode) → mode_closed mode N ≡ false → (v : ℕ) → v < size N → owing_port_to N (mode_ends mode N) v ≡ mode_owing mode N v
  owing_to Plain d v l = owing_same N sourced d v l
  owing_to Late d v l = refl

  -- ---- the leads of the timing

  module _ {v base number : ℕ} (l : v < size N) (b : base ≡ origin N) where
    plain_number : closed_debt N ≡ false → number ≡ lead_to N anywhere v → number ≡ base + (timing N).lead v
    unfolding timing timing_by lead
    plain_number d n = omega (arith, lead_same N sourced d v l)

    pub timed_plain : {mode : Mode} → mode ≡ Plain → mode_closed mode N ≡ false → number ≡ lead_to N (mode_ends mode N) v → number ≡ base + (mode_timing mode N).lead v
    timed_plain k = subst (λ (m : Mode). mode_closed m N ≡ false → number ≡ lead_to N (mode_ends m N) v → number ≡ base + (mode_timing m N).lead v) (sym k) plain_number

    late_number : {port : Bool} → is_input (element_at N v) ≡ port → number ≡ lead_to N (late_ends N) v → cond port base number ≡ (late_timing N).lead v
    unfolding late_timing timing_to timing_to_by lead_to
    late_number {port} i n = ap (λ (m : ℕ). cond port m number) b ∙ ap (cond port (origin N)) n ∙ ap (λ (t : Bool). cond t (origin N) (lead_to N (late_ends N) v)) (sym i)

    pub timed_late : {mode : Mode} {port : Bool} → mode ≡ Late → is_input (element_at N v) ≡ port → number ≡ lead_to N (mode_ends mode N) v → cond port base number ≡ (mode_timing mode N).lead v
    timed_late {port = port} k i = subst (λ (m : Mode). number ≡ lead_to N (mode_ends m N) v → cond port base number ≡ (mode_timing m N).lead v) (sym k) (late_number i)

-- ---- a port by its bit

module _ (N : Net) (v : ℕ) {bit : ℕ} (i : bit ≡ one (is_input (element_at N v))) where
  pub port_on : bit ≡ 1 → is_input (element_at N v) ≡ true
  port_on t = ⊎_elim (λ p. p) (λ p. absurd (omega (arith, i ∙ ap one p))) (true_or_false (is_input (element_at N v)))

  pub port_off : (bit ≡ 1 → ⊥) → is_input (element_at N v) ≡ false
  port_off t = ⊎_elim (λ p. absurd (t (i ∙ ap one p))) (λ p. p) (true_or_false (is_input (element_at N v)))

  -- it owes where its number is above the base
  module _ (base : ℕ) (L : List ℕ) where
    pub owes_is : {number : ℕ} → bit ≡ 1 → number ≡ get_or L v 0 → ltb base number ≡ owing_by N base L v
    unfolding owing_by
    owes_is t e = ap (ltb base) e ∙ sym (ap (λ (b : Bool). b && ltb base (get_or L v 0)) (port_on t))

    pub owes_not : (bit ≡ 1 → ⊥) → false ≡ owing_by N base L v
    unfolding owing_by
    owes_not t = sym (ap (λ (b : Bool). b && ltb base (get_or L v 0)) (port_off t))
