-- What the steps up to 13 tell of one another, check by check, over plain values. Assumes nothing.
use Rattle.std.specs.Prelude.{Result}
use mathlib.Core.Path.{◌≡◌, sym, ap, subst, ◌∙◌}
use mathlib.Core.Bool.{true, false}
use mathlib.Core.List.{List}
use Prim.Native.Nat.{ℕ, ◌≤◌, ◌<◌}
use native.Mathlib.Omega.{arith}
use lib.ListN.{length, get_or, take}
use lib.Dec.{ltb}
use borrow.Author.Tests.{lt-ltb, le-ltb}
use Rattle.std.proofs.Common.{get_or-take, lit<}
use Rattle.netlist.specs.Net.{Net, size}
use Rattle.netlist.specs.Checks.{HasTables, WellFormed}
use Rattle.netlist.specs.Verdict.{verdict, onward, Verdict, Fine, Refuses}
use Rattle.netlist.proofs.VerdictLaws.{fine_clear}
use Rattle.netlist.specs.File.{Decoded, decode, decoded_net, judged, file_verdict}
use Rattle.netlist.specs.declared.Refusal.{Refusal}
use Rattle.circuit.specs.Circuit.{net_of}
use Rattle.circuit.specs.Shown.{Shown}
use Rattle.checks.specs.Open.{Open, OpenedAs, open_shown}
use Rattle.behaviour.specs.Run.{zero_word}
use Rattle.retiming.specs.declared.Mode.{Mode}
use Rattle.retiming.specs.Gates.{spots, gated_with}
use Rattle.retiming.proofs.Candidate.{size-new}
use Rattle.retiming.proofs.Retimed.{retimed_alike}
use Rattle.retiming.proofs.PastDebt.{bounded}
use Rattle.retiming.specs.Debt.{grown}
use Rattle.retiming.specs.Modes.{mode_closed, mode_owing, mode_timing, mode_net, mode_verdict, mode_file_verdict}
use Rattle.retiming.proofs.ModeLaws.{mode_size, mode_suits, mode_net_lem}
use Rattle.retiming.proofs.RewrittenFile.{mode_judged}
use Rattle.leads.specs.Debts.{debts_verdict, debts_first}
use Rattle.leads.specs.Settled.{LeadsIn}
use Rattle.wires.specs.Traced.{roots_in, passes_in, AllTraced}
use Rattle.wiring.specs.Wiring.{Timed}
use Rattle.retime.specs.Laying.{grown_verdict, NewIs, IsCircuit, retimed_by, Lays, LaysFile}

-- ---- 13: the plan was made in the mode that is asked for

module _ (mode : Mode) (N : Net) (is : NewIs mode N) {made : Mode} (same : made ≡ mode) where
  new-size : size (mode_net mode N) ≡ length (spots N (mode_timing made N) (zero_word N))
  new-size = sym (ap size is) ∙ mode_size mode (gated_with N (mode_timing mode N) (zero_word N)) ∙ size-new N (mode_timing mode N) (zero_word N) ∙ ap (λ (m : Mode). length (spots N (mode_timing m N) (zero_word N))) (sym same)

  pub says_13 : 1024 < length (spots N (mode_timing made N) (zero_word N)) → Refuses 13 65535 ≡ grown_verdict mode N
  unfolding grown_verdict verdict grown
  says_13 h = let g : ltb 1024 (size (mode_net mode N)) ≡ true = lt-ltb 1024 (size (mode_net mode N)) (omega (arith, new-size)) in sym (rw (g, verdict))

  pub says_fine : length (spots N (mode_timing made N) (zero_word N)) ≤ 1024 → Fine ≡ grown_verdict mode N
  unfolding grown_verdict verdict grown
  says_fine h = let g : ltb 1024 (size (mode_net mode N)) ≡ false = le-ltb 1024 (size (mode_net mode N)) (omega (arith, new-size)) in sym (rw (g, verdict))

  pub laid_as : {s l : List ℕ} → IsCircuit s l (gated_with N (mode_timing made N) (zero_word N)) → IsCircuit s l (gated_with N (mode_timing mode N) (zero_word N))
  laid_as (n, k) = (n ∙ ap (λ (m : Mode). gated_with N (mode_timing m N) (zero_word N)) same, k)

module _ (mode : Mode) (N : Net) (is : NewIs mode N) {M : Net} (n : M ≡ gated_with N (mode_timing mode N) (zero_word N)) where
  -- where 13 is not said, each ROM that is laid has its table
  pub laid_has : {timing : List ℕ} → Timed N (mode_timing mode N) timing → Fine ≡ grown_verdict mode N → HasTables M
  unfolding grown_verdict
  laid_has t fine =
      let G = gated_with N (mode_timing mode N) (zero_word N) in
      let few = (bounded (mode_net mode N) ((fine_clear _ (sym fine)).0 0 (lit< tt))).nodes in
      subst HasTables (sym n)
      (retimed_alike N t.formed (mode_timing mode N) t.suits.retimes (record { nodes = omega (arith, few, ap size is, mode_size mode G) })).new.has_table

-- ---- 11 and 12, then 13

module _ (mode : Mode) (N : Net) where
  onwards : onward (debts_verdict mode N) (grown_verdict mode N) ≡ mode_verdict mode N
  unfolding grown_verdict
  onwards = sym (debts_first mode N)

  -- what is told goes by the verdict
  pub by_debts : {v w : Verdict} → v ≡ debts_verdict mode N → v ≡ w → retimed_by mode (onward w (grown_verdict mode N)) N ≡ retimed_by mode (mode_verdict mode N) N
  by_debts e q = ap (λ (w : Verdict). retimed_by mode w N) (ap (λ (w : Verdict). onward w (grown_verdict mode N)) (sym q ∙ e) ∙ onwards)

  -- where they are said
  pub debts_say : {k p : ℕ} → Refuses k p ≡ debts_verdict mode N → Refuses k p ≡ mode_verdict mode N
  debts_say e = ap (λ (v : Verdict). onward v (grown_verdict mode N)) e ∙ onwards

  -- and where they are not
  module _ (fine : Fine ≡ debts_verdict mode N) where
    pub then_13 : grown_verdict mode N ≡ mode_verdict mode N
    then_13 = ap (λ (v : Verdict). onward v (grown_verdict mode N)) fine ∙ onwards

    module _ (wf : WellFormed N) where
      pub no_closed_debt : mode_closed mode N ≡ false
      unfolding debts_verdict
      no_closed_debt = (fine_clear _ (sym fine)).0 0 (lit< tt)

      none_owes : (u : ℕ) → u < size N → mode_owing mode N u ≡ false
      unfolding debts_verdict
      none_owes = (fine_clear _ (sym fine)).1.0

      pub new_is : NewIs mode N
      new_is = mode_net_lem N wf mode no_closed_debt none_owes

      -- the leads stay where the roots are found
      pub now_timed : (leads area : List ℕ) → LeadsIn N (mode_timing mode N) leads → take 1024 area ≡ take 1024 leads → AllTraced N (roots_in area) (passes_in area) → Timed N (mode_timing mode N) area
      now_timed leads area found same traced = record {
        formed = wf;
        suits = mode_suits N wf mode no_closed_debt none_owes;
        leads_in = λ u h. let l : u < 1024 = omega (arith, wf.fields.bounds.nodes) in sym (get_or-take 1024 area u 0 l) ∙ ap (λ (y : List ℕ). get_or y u 0) same ∙ get_or-take 1024 leads u 0 l ∙ found u h;
        traced = traced;
      }

-- ---- the file

module _ (mode : Mode) where
  pub file-refused : (s : List ℕ) {k p : ℕ} → file_verdict s ≡ Refuses k p → Refuses k p ≡ mode_file_verdict mode s
  file-refused s e = sym (mode_judged mode s ∙ ap (λ (v : Verdict). onward v (mode_verdict mode (decoded_net (decode s)))) e)

  module _ {s : List ℕ} {h : Shown} (o : OpenedAs s h) where
    pub opened_verdict : mode_verdict mode h.net ≡ mode_file_verdict mode s
    unfolding file_verdict
    opened_verdict =
        sym (mode_judged mode s
        ∙ ap (λ (d : Decoded). onward (judged d) (mode_verdict mode (decoded_net d))) o.file.reads
        ∙ ap (λ (v : Verdict). onward v (mode_verdict mode h.net)) o.file.fine)

  module _ {s net : List ℕ} (o : Open s net) where
    taken_as : retimed_by mode (mode_verdict mode (net_of s net)) (net_of s net) ≡ retimed_by mode (mode_file_verdict mode s) (decoded_net (decode s))
    taken_as =
        ap (λ (v : Verdict). retimed_by mode v (net_of s net)) (opened_verdict (open_shown o))
        ∙ ap (λ (d : Decoded). retimed_by mode (mode_file_verdict mode s) (decoded_net d)) (sym o.file.reads)

    pub file-taken : {l : List ℕ} {r : Result ℕ Refusal} → Lays s l mode (net_of s net) (retimed_by mode (mode_verdict mode (net_of s net)) (net_of s net)) r → LaysFile mode s l r
    file-taken (t, laid) = (t ∙ taken_as, λ m e. let h = laid m e in (h.0 ∙ ap (λ (d : Decoded). mode_net mode (decoded_net d)) (sym o.file.reads), h.1))
