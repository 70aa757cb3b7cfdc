-- A netlist rewritten over any timing that serves it is alike to the old one, and has no asynchronous ROM; document 01's timing serves it where 11 and 12
-- do not apply. Assumes nothing.
use Rattle.std.specs.Prelude.{◌≡◌, refl, true, false, ℕ, ◌^◌, ◌<◌}
use Rattle.std.proofs.Common.{sym, ap, ◌∙◌, true≢false, zero-le, pow_pos}
use mathlib.Core.List.{List, []}
use Rattle.std.proofs.Math.ListN.{get_or}
use Rattle.lists.proofs.BelowLaws.{any_below_none}
use Rattle.netlist.specs.Net.{Net, size, element_at, width_at, is_input, is_output, is_async, Behaves}
use Rattle.behaviour.specs.Run.{run_word, zero_word, outputs_at, run_outputs}
use Rattle.retiming.specs.Leads.{lead, closed_debt, owing_port, port_debt}
use Rattle.retiming.specs.Rewrite.{Timing, timing_by, timing, rewritten}
use Rattle.retiming.specs.Gates.{gated_with}
use Rattle.behaviour.proofs.Meaning.{settles, the_run_behaves}
use Rattle.netlist.specs.Checks.{Bounds, WellFormed}
use Rattle.behaviour.proofs.Fits.{words_fit_lem}
use Rattle.behaviour.specs.Alike.{Alike}
use Rattle.retiming.specs.Wires.{ServesKept}
use Rattle.retiming.proofs.Wires.{ringless_rooted}
use Rattle.retiming.specs.LeadsLaws.{Serves}
use Rattle.retiming.proofs.LeadsLaws.{lead_serves, lead-unread}
use Rattle.retiming.proofs.Owing.{no_lead}
use Rattle.retiming.proofs.Ungated.{ungated}
use Rattle.retiming.specs.Candidate.{Retimes}
use Rattle.retiming.proofs.New.{new_sourced, new_settles}
use Rattle.retiming.proofs.Words.{new-words}
use Rattle.retiming.proofs.Ports.{ports_kept, outputs_alike, input_widths_lem, output_widths_lem}
use Rattle.retiming.proofs.Rules.{registers_fit}
use Rattle.retiming.proofs.Passes.{new_well_formed, new_clocked}

-- ---- any timing that serves

module _ (N : Net) (wf : WellFormed N) where
  pub zero_behaves : Behaves N (λ t port. get_or [] port 0) (zero_word N)
  unfolding zero_word
  zero_behaves = the_run_behaves N wf.sourced (settles N wf) (λ t. [])

  zero-fits : (t v : ℕ) → v < size N → zero_word N t v < 2 ^ width_at N v
  zero-fits = words_fit_lem N wf (λ t port. get_or [] port 0) (zero_word N) zero_behaves (λ t v h e. pow_pos (width_at N v))

  module _ (f : Timing) (ok : Retimes N f) where
    abbrev new : Net
    new = gated_with N f (zero_word N)

    pub answers_alike : (ins : ℕ → List ℕ) (t : ℕ) → outputs_at new ins t ≡ outputs_at N ins t
    unfolding outputs_at run_outputs run_word
    answers_alike ins t =
        outputs_alike N f (zero_word N) ok (run_word N ins) (run_word new ins)
        (new-words N f ok (λ s port. get_or (ins s) port 0) (λ s port. get_or [] port 0) (run_word N ins) (zero_word N) (the_run_behaves N wf.sourced (settles N wf) ins) zero_behaves
        (run_word new ins) (ports_kept N f (zero_word N) ok) (the_run_behaves new (new_sourced N f (zero_word N) ok) (new_settles N f (zero_word N) ok) ins)) t

    pub retimed_alike : Bounds new → Alike N new
    retimed_alike bounds = record {
      old = wf;
      new = new_well_formed N f wf ok (λ t port. get_or [] port 0) (zero_word N) zero_behaves zero-fits bounds;
      answers = answers_alike;
      inputs = input_widths_lem N f (zero_word N) ok;
      outputs = output_widths_lem N f (zero_word N) ok;
    }

    pub retimed_clocked : (i : ℕ) → i < size new → is_async (element_at new i) ≡ false
    retimed_clocked = new_clocked N f wf ok (λ t port. get_or [] port 0) (zero_word N) zero_behaves zero-fits

-- ---- document 01's

module _ (N : Net) (wf : WellFormed N) (debtless : closed_debt N ≡ false) (portless : port_debt N ≡ false) where
  input_lead : (v : ℕ) → v < size N → is_input (element_at N v) ≡ true → lead N v ≡ 0
  unfolding port_debt
  input_lead v h e = no_lead N v (any_below_none (size N) (owing_port N) portless v h) e

  output_lead : (v : ℕ) → v < size N → is_output (element_at N v) ≡ true → lead N v ≡ 0
  output_lead v h e =
      lead-unread N v h (λ x r. true≢false (sym e ∙ ap (λ (u : ℕ). is_output (element_at N u)) (sym r.from) ∙ wf.outputs_unread x r.operand r.inside r.used))

  timing_serves : ServesKept N (timing N)
  unfolding ServesKept Serves timing timing_by lead
  timing_serves x u r k = (refl, lead_serves N wf.sourced debtless x u r)

  pub retimes : Retimes N (timing N)
  unfolding timing timing_by lead
  retimes = record {
    sourced = wf.sourced;
    settles = settles N wf;
    fit = registers_fit N wf;
    rooted = ringless_rooted N wf.sourced wf.no_ring;
    serves = timing_serves;
    inputs = input_lead;
    outputs = output_lead;
    inputs_stay = λ v h i. refl;
    outputs_stay = λ v h o. refl;
    read = λ v h k i o. let r = wf.read v h i o in (r.0, r.1, refl);
  }

  -- no node is late, so there are no gates
  pub rewritten_is : gated_with N (timing N) (zero_word N) ≡ rewritten N
  unfolding rewritten timing timing_by
  rewritten_is = ungated N (timing N) (zero_word N) (λ v. zero-le)
