-- From a state that fits, as the one at reset does, every state of a list of runs fits, so a run is refused by 15 alone, and just where the entry does not fit.
-- Assumes nothing.
use Rattle.std.specs.Prelude.{◌≡◌, Bool, cond}
use Rattle.std.proofs.Math.Path.{refl, sym}
use Rattle.std.proofs.Common.{ap, ◌∙◌, true≢false, arith, eq-eqb, ne_eqb}
use Rattle.std.proofs.Math.Bool.{true, false}
use mathlib.Core.List.{List, [], ◌∷◌}
use Prim.Native.Nat.{ℕ, ◌*◌}
use Rattle.std.proofs.Math.ListN.{length}
use Rattle.lists.proofs.BelowLaws.{and_right, eqb-true}
use Rattle.lists.proofs.ListsLaws.{length-select}
use Rattle.netlist.specs.Net.{Net, size, element_at, is_output, outputs_of}
use Rattle.netlist.specs.Checks.{WellFormed}
use Rattle.netlist.specs.File.{ReadAs}
use Rattle.netlist.specs.declared.Answer.TheVariants.{Accepted, Refused}
use Rattle.behaviour.specs.Run.{reset_state, run_outputs}
use Rattle.behaviour.specs.Runs.{Lent, input_widths, output_widths, state_widths, fitting, takes, refusal, outcome, after}
use Rattle.behaviour.proofs.ClockFits.{holders_fit, reset_fits, state_stays_fit}
use Rattle.behaviour.proofs.States.{taken-fits}
use Rattle.behaviour.specs.Service.{bytes_of, room_for, fitting_bytes, reset_net, reset_file, Ran, run_net, run_file, Entry, runs_file}
use Rattle.behaviour.proofs.WordBytes.{length-bytes, fitting-bytes}
use Rattle.behaviour.specs.Lending.{takes_entry}
use Rattle.behaviour.proofs.Lending.{lent, takes-lent}
use Rattle.behaviour.specs.Entries.{state_bytes, state_fits, entry_fits, Shows, EachShows, state_after}
use Rattle.behaviour.proofs.ServiceLaws.{reset_file_lem, run_file_lem, shown_as, ran_as, run_words}

-- a state that fits, as words
pub record Fitted (N : Net) (st : List ℕ) : Type 0 where
  pub words : List ℕ
  pub fit : fitting (state_widths N) words ≡ true
  pub is : st ≡ bytes_of words

module _ (N : Net) (wf : WellFormed N) where
  pub reset_fitted : Fitted N (bytes_of (reset_state N))
  reset_fitted = record { words = reset_state N; fit = reset_fits N wf; is = refl }

  fitted_bytes : (st : List ℕ) → Fitted N st → fitting_bytes (state_widths N) st ≡ true
  fitted_bytes st f = rw f.is (fitting-bytes (state_widths N) f.words ∙ f.fit)

  reset_accepts : (st : List ℕ) → length st ≡ 2 * length (state_widths N) → reset_net N st ≡ record { answer = Accepted (length st); state = bytes_of (reset_state N) }
  unfolding reset_net
  reset_accepts st h = rw (eq-eqb (length st) (2 * length (state_widths N)) h)

  -- one run, from such a state
  only_15 : (st : List ℕ) (f : Fitted N st) (e : Entry) → refusal N f.words (lent e) ≡ cond (takes N (lent e)) 0 15
  unfolding refusal
  only_15 st f e = rw f.fit

  ran : (st : List ℕ) (f : Fitted N st) (e : Entry)
      → run_net N st e.inputs e.outputs
      ≡ ran_as (shown_as e (outcome (cond (takes N (lent e)) 0 15) N f.words (lent e))) (after (cond (takes N (lent e)) 0 15) N f.words (lent e))
  ran st f e = rw f.is (rw (← (only_15 st f e)) (run_words N wf f.words e))

  after-fits : (state : List ℕ) → fitting (state_widths N) state ≡ true → (e : Lent) (b : Bool) → takes N e ≡ b → fitting (state_widths N) (after (cond b 0 15) N state e) ≡ true
  unfolding after
  after-fits state fit e true t = state_stays_fit N wf state e.words (holders_fit N state fit) (taken-fits N e t)
  after-fits state fit e false t = fit

  next_fitted : (st : List ℕ) → Fitted N st → (e : Entry) → Fitted N (run_net N st e.inputs e.outputs).state
  next_fitted st f e = record {
    words = after (cond (takes N (lent e)) 0 15) N f.words (lent e);
    fit = after-fits f.words f.fit (lent e) (takes N (lent e)) refl;
    is = ap (λ (r : Ran). r.state) (ran st f e);
  }

  pub outputs_long : (state ins : List ℕ) → length (run_outputs N state ins) ≡ length (output_widths N)
  unfolding run_outputs outputs_of output_widths
  outputs_long state ins = length-select (λ v. is_output (element_at N v)) _ (size N) ∙ sym (length-select (λ v. is_output (element_at N v)) _ (size N))

  pub room_taken : (e : Entry) → takes_entry N e ≡ true → length e.outputs ≡ 2 * length (output_widths N)
  unfolding takes_entry
  room_taken e t = eqb-true (and_right (fitting_bytes (input_widths N) e.inputs) (room_for (output_widths N) e.outputs) t)

  run_shows : (st : List ℕ) → Fitted N st → (e : Entry)
      → Shows (takes_entry N e) e (record { answer = (run_net N st e.inputs e.outputs).answer; outputs = (run_net N st e.inputs e.outputs).outputs })
  unfolding outcome
  run_shows st f e = rw (ran st f e) (by_test (takes N (lent e)) (sym (takes-lent N wf e)))
    where
      by_test : (b : Bool) → takes_entry N e ≡ b → Shows (takes_entry N e) e (shown_as e (outcome (cond b 0 15) N f.words (lent e)))
      by_test true t =
          let ws : List ℕ = run_outputs N f.words (lent e).words in
          record { answer = rw t; as_long = omega (arith, length-bytes ws, outputs_long f.words (lent e).words, room_taken e t); stays = λ k. absurd (true≢false (sym t ∙ k)) }
      by_test false t = record { answer = rw t; as_long = refl; stays = λ k. refl }

-- ---- a list of runs

module _ (s : List ℕ) (N : Net) (wf : WellFormed N) (file : ReadAs s N) where
  one_shows : (st : List ℕ) → Fitted N st → (e : Entry) → Shows (entry_fits s e) e (record { answer = (run_file s st e.inputs e.outputs).answer; outputs = (run_file s st e.inputs e.outputs).outputs })
  unfolding entry_fits
  one_shows st f e = rw file.reads (rw (run_file_lem s N file st e.inputs e.outputs) (run_shows N wf st f e))

  next : (st : List ℕ) → Fitted N st → (e : Entry) → Fitted N (run_file s st e.inputs e.outputs).state
  next st f e = rw (run_file_lem s N file st e.inputs e.outputs) (next_fitted N wf st f e)

  -- THE THEOREM: only 15, and just where its condition holds
  pub each_shows : (st : List ℕ) → Fitted N st → (es : List Entry) → EachShows (entry_fits s) es (runs_file s st es)
  unfolding runs_file
  each_shows st f [] = tt
  each_shows st f (e ∷ es) = (one_shows st f e, each_shows (run_file s st e.inputs e.outputs).state (next st f e) es)

  after-runs : (st : List ℕ) → Fitted N st → (es : List Entry) → Fitted N (state_after s st es)
  unfolding state_after
  after-runs st f [] = f
  after-runs st f (e ∷ es) = after-runs (run_file s st e.inputs e.outputs).state (next st f e) es

  -- so 16 never comes up
  pub states_fit : (st : List ℕ) → Fitted N st → (es : List Entry) → state_fits s (state_after s st es) ≡ true
  unfolding state_fits
  states_fit st f es = rw file.reads (fitted_bytes N wf (state_after s st es) (after-runs st f es))

  -- the reset service takes a state of the right length
  pub reset_accepted : (st : List ℕ) → length st ≡ state_bytes s → reset_file s st ≡ record { answer = Accepted (length st); state = bytes_of (reset_state N) }
  unfolding state_bytes
  reset_accepted st h = reset_file_lem s N file st ∙ reset_accepts N wf st (rw file.reads at h)

  -- and no other (16)
  pub reset_refused : (st : List ℕ) → (length st ≡ state_bytes s → ⊥) → reset_file s st ≡ record { answer = Refused 16 65535; state = st }
  unfolding state_bytes reset_net
  reset_refused st h = reset_file_lem s N file st ∙ rw (ne_eqb (length st) (2 * length (state_widths N)) (rw file.reads at h))
