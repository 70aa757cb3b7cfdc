-- What is laid and what is answered: the laws of both modes, and what they tell of the verdict, the netlist and the lead. Assumes nothing.
use Rattle.std.specs.Prelude.{◌≡◌, refl, List, ℕ, Result, Ok, Err, IfOk}
use Rattle.std.proofs.Math.Path.{sym, ap, subst}
use Rattle.std.proofs.Common.{◌∙◌, arith}
use Rattle.std.proofs.Math.Bool.{false}
use Rattle.netlist.specs.Net.{Net}
use Rattle.netlist.specs.declared.Answer.{Answer}
use Rattle.netlist.specs.declared.Answer.TheVariants.{Accepted, Refused}
use Rattle.netlist.specs.declared.Refusal.{Refusal}
use Rattle.netlist.specs.Refusal.{number_of, place_of, said, refused, answered}
use Rattle.netlist.specs.Verdict.{Verdict, Fine, Refuses}
use Rattle.netlist.specs.File.{decode, decoded_net}
use Rattle.circuit.specs.Circuit.{net_of, Circuit}
use Rattle.behaviour.specs.Run.{zero_word}
use Rattle.retiming.specs.declared.Mode.{Mode}
use Rattle.retiming.specs.declared.Mode.TheVariants.{Plain, Late}
use Rattle.retiming.specs.Leads.{closed_debt}
use Rattle.retiming.specs.Rewrite.{timing}
use Rattle.retiming.specs.Gates.{gated_with}
use Rattle.retiming.specs.Preview.{largest_lead_of}
use Rattle.retiming.specs.Modes.{mode_closed, mode_timing, mode_trimmed, mode_net, mode_file_verdict}
use Rattle.leads.specs.Settled.{LeadsIn}
use Rattle.retime.specs.Laying.{mode_lead, NewIs, IsCircuit, grown_verdict, retimed_by, Lays, LaysFile}

-- ---- what the mode leaves out

module _ (mode : Mode) (N : Net) (is : NewIs mode N) (s l : List ℕ) (n : net_of s l ≡ gated_with N (mode_timing mode N) (zero_word N)) where
  pub laid-new : {m : List ℕ} → IsCircuit s m (mode_trimmed mode (net_of s l)) → IsCircuit s m (mode_net mode N)
  laid-new (e, k) = (e ∙ ap (mode_trimmed mode) n ∙ is, k)

pub left_by : (M : Net) {mode found : Mode} {s l : List ℕ} → mode ≡ found → IsCircuit s l (mode_trimmed found M) → IsCircuit s l (mode_trimmed mode M)
left_by M {s = s} {l} e c = subst (λ (m : Mode). IsCircuit s l (mode_trimmed m M)) (sym e) c

-- ---- what is told of the leads

pub lead-late : (N : Net) {mode : Mode} → mode ≡ Late → 0 ≡ mode_lead mode N
lead-late N e = ap (λ (m : Mode). mode_lead m N) (sym e)

pub lead_plain : (N : Net) {mode : Mode} {m : ℕ} → mode ≡ Plain → m ≡ largest_lead_of N → m ≡ mode_lead mode N
lead_plain N e q = q ∙ ap (λ (m : Mode). mode_lead m N) (sym e)

-- what the plain mode's largest lead is found from
pub plain_leads : (N : Net) (leads : List ℕ) {mode : Mode} → mode ≡ Plain → mode_closed mode N ≡ false → LeadsIn N (mode_timing mode N) leads → (closed_debt N ≡ false) × LeadsIn N (timing N) leads
plain_leads N leads e d l = (ap (λ (m : Mode). mode_closed m N) (sym e) ∙ d, subst (λ (m : Mode). LeadsIn N (mode_timing m N) leads) e l)

-- ---- what is answered, and what is then laid

refused_none : {k p m : ℕ} → Refused k p ≡ Accepted m → ⊥
refused_none e = let q : ◌≡◌ {A = ℕ} 0 1 = cc in omega arith

module _ (s l : List ℕ) (mode : Mode) (N : Net) where
  pub lays_none : {told : Answer} {x : Refusal} → refused x ≡ told → Lays s l mode N told (Err x)
  lays_none e = (e, λ m q. absurd (refused_none (ap answered q)))

  pub lays_as : {told told' : Answer} {r : Result ℕ Refusal} → told ≡ told' → Lays s l mode N told r → Lays s l mode N told' r
  lays_as e (t, laid) = (t ∙ e, laid)

  pub lays : {v : Verdict} {m : ℕ} → v ≡ grown_verdict mode N → v ≡ Fine → IsCircuit s l (mode_net mode N) → m ≡ mode_lead mode N → Lays s l mode N (retimed_by mode (grown_verdict mode N) N) (Ok m)
  lays e q laid m = (ap Accepted m ∙ ap (λ (w : Verdict). retimed_by mode w N) (sym q ∙ e), λ k f. laid)

-- from the four clauses of the code
module _ (mode : Mode) (s l : List ℕ) where
  pub lays_file : (r : Result ℕ Refusal) → said r ≡ mode_file_verdict mode s → IfOk r (λ _. net_of s l ≡ mode_net mode (decoded_net (decode s))) → IfOk r (λ _. Circuit s l)
      → IfOk r (λ m. m ≡ mode_lead mode (decoded_net (decode s))) → LaysFile mode s l r
  lays_file (Ok m) v n k e = (ap Accepted e ∙ ap (λ (w : Verdict). retimed_by mode w (decoded_net (decode s))) v, λ j q. (n, k))
  lays_file (Err x) v n k e = let N = decoded_net (decode s) in lays_none s l mode N (ap (λ (w : Verdict). retimed_by mode w N) v)

-- ---- what the answer tells of the verdict

module _ (mode : Mode) where
  by_laid : (v : Verdict) (N : Net) {m : ℕ} → retimed_by mode v N ≡ Accepted m → (v ≡ Fine) × (m ≡ mode_lead mode N)
  by_laid Fine N e = (refl, cc)
  by_laid (Refuses k p) N e = absurd (refused_none e)

  by_refused : (v : Verdict) (N : Net) {k p : ℕ} → retimed_by mode v N ≡ Refused k p → v ≡ Refuses k p
  by_refused Fine N e = absurd (refused_none (sym e))
  by_refused (Refuses m q) N e = cc

module _ (mode : Mode) {s l : List ℕ} {r : Result ℕ Refusal} (t : LaysFile mode s l r) where
  pub laid_accepted : {m : ℕ} → r ≡ Ok m → (mode_file_verdict mode s ≡ Fine) × (m ≡ mode_lead mode (decoded_net (decode s))) × IsCircuit s l (mode_net mode (decoded_net (decode s)))
  laid_accepted {m} q = let v = by_laid mode (mode_file_verdict mode s) (decoded_net (decode s)) (sym t.0 ∙ ap answered q) in (v.0, v.1, t.1 m q)

  pub laid-refused : {x : Refusal} → r ≡ Err x → mode_file_verdict mode s ≡ Refuses (number_of x) (place_of x)
  laid-refused q = by_refused mode (mode_file_verdict mode s) (decoded_net (decode s)) (sym t.0 ∙ ap answered q)
