-- The run on bytes is the run on words: what one run leaves, and what a list of runs shows. Assumes nothing.
use Rattle.std.specs.Prelude.{◌≡◌, Bool, cond, ℕ, length}
use Rattle.std.proofs.Math.Path.{refl, ap, ap₂}
use Rattle.std.proofs.Common.{◌∙◌, ⊎_elim}
use Rattle.std.proofs.Math.Bool.{true, false}
use mathlib.Core.List.{List, [], ◌∷◌, map}
use Rattle.lists.proofs.BelowLaws.{true_or_false}
use Rattle.netlist.specs.Net.{Net}
use Rattle.netlist.specs.Checks.{WellFormed}
use Rattle.netlist.specs.Verdict.{onward, Verdict, Fine, Refuses}
use Rattle.netlist.specs.File.{Decoded, ReadAs, decoded_net, judged, file_verdict, answer, given}
use Rattle.behaviour.specs.Run.{run_outputs, run_state}
use Rattle.behaviour.specs.Runs as runs
use Rattle.behaviour.specs.Runs.{state_widths, fitting, takes, refusal, outcome, after}
use Rattle.behaviour.specs.Service.{bytes_of, words_in, fitting_bytes, reset_by, reset_verdict, reset_net, reset_file, Ran, run_by, run_verdict, run_net, run_file, Entry, Shown, runs_file}
use Rattle.behaviour.proofs.WordBytes.{words_of_bytes, fitting-bytes}
use Rattle.behaviour.specs.Lending.{takes_entry}
use Rattle.behaviour.proofs.Lending.{lent, takes-lent, words-lent}

-- ---- a file that the reader passes, and its netlist

module _ (s : List ℕ) (N : Net) (file : ReadAs s N) where
  pub reset_file_lem : (st : List ℕ) → reset_file s st ≡ reset_net N st
  unfolding reset_file reset_net file_verdict
  reset_file_lem st =
      ap (λ (d : Decoded). reset_by (onward (judged d) (reset_verdict (decoded_net d) st)) (decoded_net d) st) file.reads
      ∙ ap (λ (v : Verdict). reset_by (onward v (reset_verdict N st)) N st) file.fine

  pub run_file_lem : (st ins outs : List ℕ) → run_file s st ins outs ≡ run_net N st ins outs
  unfolding run_file run_net file_verdict
  run_file_lem st ins outs =
      ap (λ (d : Decoded). run_by (onward (judged d) (run_verdict (decoded_net d) st ins outs)) (decoded_net d) st ins outs) file.reads
      ∙ ap (λ (v : Verdict). run_by (onward v (run_verdict N st ins outs)) N st ins outs) file.fine

  -- where entry and state fit, neither 15 nor 16 comes up
  pub run_fine : (st : List ℕ) (e : Entry) → takes_entry N e ≡ true → fitting_bytes (state_widths N) st ≡ true
      → run_file s st e.inputs e.outputs ≡ run_by Fine N st e.inputs e.outputs
  unfolding run_net takes_entry
  run_fine st e t f = run_file_lem st e.inputs e.outputs ∙ rw (t, f)

-- ---- one run

-- what the outcome on words shows in bytes, and with the next state
abbrev pub shown_as : Entry → runs.Outcome → Shown
shown_as e (runs.Gave ws) = record { answer = answer Fine (length e.outputs); outputs = bytes_of ws }
shown_as e (runs.Stayed k room) = record { answer = answer (Refuses k 65535) (length e.outputs); outputs = e.outputs }

abbrev pub ran_as : Shown → List ℕ → Ran
ran_as x state = record { answer = x.answer; state = bytes_of state; outputs = x.outputs }

module _ (N : Net) (wf : WellFormed N) where
  -- an entry that is taken, over a state that fits or does not; and an entry that is not
  abbrev ran_by : Verdict → List ℕ → Entry → Ran
  ran_by v state e = record {
    answer = answer v (length e.outputs);
    state = given v (bytes_of (run_state N state (words_in e.inputs))) (bytes_of state);
    outputs = given v (bytes_of (run_outputs N state (words_in e.inputs))) e.outputs;
  }

  run_taken : (state : List ℕ) (e : Entry) → takes N (lent e) ≡ true → (b : Bool)
      → ran_by (cond b Fine (Refuses 16 65535)) state e
      ≡ ran_as (shown_as e (outcome (cond b 0 16) N state (lent e))) (after (cond b 0 16) N state (lent e))
  unfolding outcome after
  run_taken state e t true = rw (words-lent N wf e t)
  run_taken state e t false = refl

  -- THE LAW
  pub run_words : (state : List ℕ) (e : Entry)
      → run_net N (bytes_of state) e.inputs e.outputs ≡ ran_as (shown_as e (outcome (refusal N state (lent e)) N state (lent e))) (after (refusal N state (lent e)) N state (lent e))
  unfolding run_net refusal takes_entry outcome after
  run_words state e =
      rw (← (takes-lent N wf e)) (rw (fitting-bytes (state_widths N) state) (rw (words_of_bytes state)
      (⊎_elim (λ (t : takes N (lent e) ≡ true). rw t (run_taken state e t (fitting (state_widths N) state))) (λ t. rw t refused) (true_or_false (takes N (lent e))))))
    where
      refused : ran_by (Refuses 15 65535) state e ≡ ran_as (shown_as e (outcome 15 N state (lent e))) (after 15 N state (lent e))
      refused = refl

-- ---- a list of runs

abbrev pub shown_all : List Entry → List runs.Outcome → List Shown
shown_all [] l = []
shown_all (e ∷ es) [] = []
shown_all (e ∷ es) (a ∷ l) = shown_as e a ∷ shown_all es l

module _ (s : List ℕ) (N : Net) (wf : WellFormed N) (file : ReadAs s N) where
  abbrev shown : Ran → Shown
  shown r = record { answer = r.answer; outputs = r.outputs }

  ran : (state : List ℕ) (e : Entry)
      → run_file s (bytes_of state) e.inputs e.outputs ≡ ran_as (shown_as e (outcome (refusal N state (lent e)) N state (lent e))) (after (refusal N state (lent e)) N state (lent e))
  ran state e = run_file_lem s N file (bytes_of state) e.inputs e.outputs ∙ run_words N wf state e

  -- THE THEOREM: what the file's runs show is decided by the runs of its netlist on words
  pub runs-words : (state : List ℕ) (es : List Entry) → runs_file s (bytes_of state) es ≡ shown_all es (runs.runs N state (map lent es))
  unfolding runs_file runs.runs
  runs-words state [] = refl
  runs-words state (e ∷ es) =
      ap₂ ◌∷◌ (ap shown (ran state e))
      (ap (λ (r : Ran). runs_file s r.state es) (ran state e) ∙ runs-words (after (refusal N state (lent e)) N state (lent e)) es)
