-- Laws of what specs/RunsBehave.antt defines. Assumes nothing.
use Rattle.std.proofs.Math.Path.{◌≡◌, refl, ap, ap₂}
use Rattle.std.proofs.Common.{◌∙◌, ⊎_elim}
use Rattle.std.specs.Prelude.{Bool, length}
use Rattle.std.proofs.Math.Bool.{true, false, cond}
use mathlib.Core.List.{List, [], ◌∷◌}
use Prim.Native.Nat.{ℕ, zero, suc, ◌+◌, ◌<◌}
use Rattle.std.proofs.Math.Nat.{add-zero}
use Rattle.std.proofs.Math.Numerals.{add-one}
use native.Mathlib.Omega.{arith}
use Rattle.std.proofs.Math.ListN.{get_or}
use Rattle.lists.specs.Lists.{one, only}
use Rattle.lists.proofs.BelowLaws.{true_or_false, and_left, and_right}
use Rattle.lists.proofs.ListsLaws.{concat_map-cong}
use Rattle.netlist.specs.Net.{Net, size, element_at, is_output, Behaves, outputs_of}
use Rattle.netlist.specs.Checks.{WellFormed}
use Rattle.netlist.specs.File.{ReadAs, answer}
use Rattle.netlist.specs.Verdict.{Fine, Refuses}
use Rattle.behaviour.specs.Run.{run_outputs, run_word, state_at}
use Rattle.behaviour.specs.Runs.{input_widths, output_widths, state_widths, fitting}
use Rattle.behaviour.specs.Service.{bytes_of, words_in, room_for, fitting_bytes, Filled, reset_file, Ran, run_net, run_file, Entry, Shown, runs_file}
use Rattle.behaviour.proofs.Meaning.{settles, the_run_behaves, one_behaviour}
use Rattle.behaviour.proofs.ClockFits.{PortsFit, ports_fit}
use Rattle.behaviour.proofs.States.{InputsFit, zeros_fit, state_fits_lem}
use Rattle.behaviour.proofs.WordBytes.{words_of_bytes, fitting-bytes}
use Rattle.behaviour.specs.Lending.{takes_entry}
use Rattle.behaviour.specs.Entries.{state_bytes}
use Rattle.behaviour.proofs.ServiceLaws.{run_file_lem}
use Rattle.behaviour.proofs.Only15.{reset_accepted}
use Rattle.behaviour.specs.RunsBehave.{taken, inputs_at, shown_from}

-- ---- the words of the clocks fit

pub entry-fits : (N : Net) (e : Entry) → takes_entry N e ≡ true → PortsFit N (words_in e.inputs)
unfolding takes_entry
entry-fits N e t =
    let b = fitting_bytes (input_widths N) e.inputs in
    ports_fit N (words_in e.inputs) (and_right (room_for (input_widths N) e.inputs) (fitting (input_widths N) (words_in e.inputs)) (and_left b (room_for (output_widths N) e.outputs) t))

first_or_later : (N : Net) (d : List ℕ) (l : List (List ℕ)) → PortsFit N d → ((t : ℕ) → PortsFit N (get_or l t [])) → (t : ℕ) → PortsFit N (get_or (d ∷ l) t [])
first_or_later N d l h later zero = h
first_or_later N d l h later (suc t) = later t

inputs_fit : (N : Net) (es : List Entry) → InputsFit N (inputs_at N es)
unfolding inputs_at taken
inputs_fit N [] t = zeros_fit N t
inputs_fit N (e ∷ es) t =
    ⊎_elim (λ q. rw q (first_or_later N (words_in e.inputs) (taken N es) (entry-fits N e q) (inputs_fit N es) t)) (λ q. rw q (inputs_fit N es t)) (true_or_false (takes_entry N e))

module _ (s : List ℕ) (N : Net) (wf : WellFormed N) (file : ReadAs s N) where
  -- ---- one run, at clock t of a run from reset with the input words S

  module _ (S : ℕ → List ℕ) (fit : InputsFit N S) where
    abbrev leaves : Bool → ℕ → Entry → Ran
    leaves b t e = record {
      answer = answer (cond b Fine (Refuses 15 65535)) (length e.outputs);
      state = bytes_of (state_at N S (t + one b));
      outputs = cond b (bytes_of (outputs_of N (run_word N S t))) e.outputs;
    }

    one_run : (e : Entry) (t : ℕ) (b : Bool) → takes_entry N e ≡ b → (b ≡ true → S t ≡ words_in e.inputs)
        → run_file s (bytes_of (state_at N S t)) e.inputs e.outputs ≡ leaves b t e
    unfolding run_net takes_entry state_at run_outputs run_word
    one_run e t true q w =
        run_file_lem s N file (bytes_of (state_at N S t)) e.inputs e.outputs
        ∙ rw (q, fitting-bytes (state_widths N) (state_at N S t), state_fits_lem N wf S fit t, words_of_bytes (state_at N S t), add-one t, ← (w refl)) refl
    one_run e t false q w = run_file_lem s N file (bytes_of (state_at N S t)) e.inputs e.outputs ∙ rw (q, add-zero t) refl

    -- ---- a list of runs

    abbrev Goes : List Entry → ℕ → Type 0
    Goes es t = (i : ℕ) → S (t + i) ≡ inputs_at N es i

    goes_on : (e : Entry) (es : List Entry) (t : ℕ) (b : Bool) → takes_entry N e ≡ b → Goes (e ∷ es) t → (b ≡ true → S t ≡ words_in e.inputs) × Goes es (t + one b)
    unfolding inputs_at taken
    goes_on e es t true q g = (λ k. rw (add-zero t, q) at (g 0), λ i. let h : t + 1 + i ≡ t + suc i = omega arith in ap S h ∙ rw q at (g (suc i)))
    goes_on e es t false q g = (λ k. absurd (let z : ◌≡◌ {A = Bool} false true = k in let y : ◌≡◌ {A = ℕ} 0 1 = cc in omega arith), λ i. let h : t + 0 + i ≡ t + i = omega arith in ap S h ∙ rw q at (g i))

    runs_on : (es : List Entry) (t : ℕ) → Goes es t → runs_file s (bytes_of (state_at N S t)) es ≡ shown_from N (run_word N S) t es
    unfolding runs_file shown_from
    runs_on [] t g = refl
    runs_on (e ∷ es) t g =
        let b = takes_entry N e in
        let n = goes_on e es t b refl g in
        let r = one_run e t b refl n.0 in
        ap₂ ◌∷◌ (ap (λ (x : Ran). record { answer = x.answer; outputs = x.outputs }) r)
        (ap (λ (x : Ran). runs_file s x.state es) r ∙ runs_on es (t + one b) n.1)

  -- what is shown depends on the words of the nodes alone
  shown-cong : (B C : ℕ → ℕ → ℕ) → ((t v : ℕ) → v < size N → B t v ≡ C t v) → (t : ℕ) (es : List Entry) → shown_from N B t es ≡ shown_from N C t es
  unfolding shown_from outputs_of
  shown-cong B C same t [] = refl
  shown-cong B C same t (e ∷ es) =
      ap₂ (λ (o : List ℕ) (l : List Shown). record { answer = answer (cond (takes_entry N e) Fine (Refuses 15 65535)) (length e.outputs); outputs = cond (takes_entry N e) (bytes_of o) e.outputs } ∷ l)
      (concat_map-cong (λ v. only (is_output (element_at N v)) (B t v)) (λ v. only (is_output (element_at N v)) (C t v)) 0 (size N) (λ v l. ap (only (is_output (element_at N v))) (same t v (omega arith))))
      (shown-cong B C same (t + one (takes_entry N e)) es)

  -- THE THEOREM
  pub runs_behave : (st : List ℕ) → length st ≡ state_bytes s → (es : List Entry) (B : ℕ → ℕ → ℕ) → Behaves N (λ t port. get_or (inputs_at N es t) port 0) B
      → runs_file s (reset_file s st).state es ≡ shown_from N B 0 es
  unfolding state_at
  runs_behave st h es B hB =
      let S : ℕ → List ℕ = inputs_at N es in
      ap (λ (x : Filled). runs_file s x.state es) (reset_accepted s N wf file st h)
      ∙ runs_on S (inputs_fit N es) es 0 (λ i. let z : 0 + i ≡ i = omega arith in ap S z)
      ∙ shown-cong (run_word N S) B
      (one_behaviour N wf.sourced (settles N wf) (λ t port. get_or (S t) port 0) (run_word N S) B (the_run_behaves N wf.sourced (settles N wf) S) hB) 0 es
