-- A list of runs in one call, as the code makes it: over the file's netlist, on words, clock by clock. Assumes nothing.
use Rattle.std.specs.Prelude.{◌≡◌, refl, true}
use Rattle.std.proofs.Common.{sym, ap₂, ◌∙◌, zero-add, eq-eqb}
use Rattle.std.proofs.Math.Path.{ap}
use mathlib.Core.List.{List, ◌++◌, map}
use Prim.Native.Nat.{ℕ, zero, suc, ◌+◌, ◌*◌, ◌≤◌, ◌<◌}
use Rattle.std.proofs.Math.Nat.{add-zero, mul-suc, mul-le-mul_left}
use native.Mathlib.Omega.{arith}
use Rattle.std.proofs.Math.ListN.{length}
use Rattle.lists.specs.Lists.{up_from, below, concat_map}
use Rattle.lists.proofs.BelowLaws.{and_right, eqb-true, all_below_elim}
use Rattle.lists.proofs.Sections.{section-length}
use Rattle.netlist.specs.Net.{Net}
use Rattle.netlist.specs.Checks.{WellFormed}
use Rattle.netlist.specs.Verdict.{onward, Verdict, Fine, Refuses}
use Rattle.netlist.specs.File.{ReadAs, decode, decoded_net, file_verdict, answer}
use Rattle.netlist.specs.declared.Answer.TheVariants.{Accepted, Refused}
use Rattle.behaviour.specs.Run.{run_outputs}
use Rattle.behaviour.specs.Runs.{input_widths, output_widths, state_widths, fitting}
use Rattle.behaviour.proofs.ClockFits.{ports_fit, holders_fit, state_stays_fit}
use Rattle.behaviour.specs.Service.{bytes_of, words_in, room_for, fitting_bytes, Ran, run_file, Entry, Shown, runs_file}
use Rattle.behaviour.proofs.WordBytes.{words_of_bytes, fitting-bytes}
use Rattle.behaviour.specs.Lending.{takes_entry}
use Rattle.behaviour.specs.Entries.{state_after}
use Rattle.behaviour.proofs.Refused.{accepted_not}
use Rattle.behaviour.proofs.ServiceLaws.{run_fine}
use Rattle.behaviour.specs.RunList.{row_bytes, byte_row, room_for_rows, fitting_rows, entry_at, entries, list_verdict, list_by, run_list_file}
use Rattle.behaviour.specs.RunListLaws.{states_from, row_words}

-- ---- a file that the reader refuses, and one that it passes

pub list_turned_away : (s st ins outs : List ℕ) (clocks : ℕ) {k p : ℕ} → file_verdict s ≡ Refuses k p
    → run_list_file s st ins outs clocks ≡ record { answer = Refused k p; state = st; outputs = outs }
unfolding run_list_file
list_turned_away s st ins outs clocks e =
    let N = decoded_net (decode s) in
    ap (λ (v : Verdict). list_by (onward v (list_verdict N st ins outs clocks)) s (entries N ins outs clocks) st outs) e

module _ (s : List ℕ) (N : Net) (file : ReadAs s N) where
  pub list_file : (st ins outs : List ℕ) (clocks : ℕ) → run_list_file s st ins outs clocks ≡ list_by (list_verdict N st ins outs clocks) s (entries N ins outs clocks) st outs
  unfolding run_list_file file_verdict
  list_file st ins outs clocks = rw (file.reads, file.fine)

-- a call that is accepted: none of the checks refuses
pub list_accepted : (s st ins outs : List ℕ) (clocks : ℕ) {n : ℕ} → (run_list_file s st ins outs clocks).answer ≡ Accepted n
    → onward (file_verdict s) (list_verdict (decoded_net (decode s)) st ins outs clocks) ≡ Fine
unfolding run_list_file
list_accepted s st ins outs clocks e = fine (onward (file_verdict s) (list_verdict (decoded_net (decode s)) st ins outs clocks)) e
  where
    fine : (v : Verdict) {n : ℕ} → answer v (length outs) ≡ Accepted n → v ≡ Fine
    fine Fine k = refl
    fine (Refuses m p) k = accepted_not (sym k)

-- ---- rows, entries and states fit

module _ (N : Net) (ins : List ℕ) (clocks : ℕ) (rows : fitting_rows clocks (input_widths N) ins ≡ true) where
  row_bytes_fit : (i : ℕ) → i < clocks → fitting_bytes (input_widths N) (byte_row (row_bytes (input_widths N)) ins i) ≡ true
  row_bytes_fit i h = all_below_elim clocks _ (and_right (room_for_rows clocks (input_widths N) ins) _ rows) i h

  pub row_fits : (i : ℕ) → i < clocks → fitting (input_widths N) (row_words N ins i) ≡ true
  row_fits i h = and_right (room_for (input_widths N) (byte_row (row_bytes (input_widths N)) ins i)) _ (row_bytes_fit i h)

  pub entry-taken : (outs : List ℕ) → room_for_rows clocks (output_widths N) outs ≡ true → (i : ℕ) → i < clocks → takes_entry N (entry_at N ins outs i) ≡ true
  unfolding takes_entry
  entry-taken outs room i h =
      let r = row_bytes (output_widths N) in
      let long : length outs ≡ r * clocks = eqb-true room in
      let fits : r * suc i ≤ r * clocks = mul-le-mul_left r h in
      rw (row_bytes_fit i h) (eq-eqb _ r (section-length (r * i) r outs (omega (arith, mul-suc r i))))

  pub state_from_fits : WellFormed N → (st : List ℕ) → fitting_bytes (state_widths N) st ≡ true → (t : ℕ) → t ≤ clocks
      → fitting (state_widths N) (states_from N (words_in st) (row_words N ins) t) ≡ true
  unfolding states_from
  state_from_fits wf st state zero h = and_right (room_for (state_widths N) st) _ state
  state_from_fits wf st state (suc t) h =
      let before = states_from N (words_in st) (row_words N ins) t in
      state_stays_fit N wf before (row_words N ins t) (holders_fit N before (state_from_fits wf st state t (omega arith))) (ports_fit N (row_words N ins t) (row_fits t h))

-- ---- the runs, on words

module _ (s : List ℕ) (N : Net) (wf : WellFormed N) (file : ReadAs s N) (st ins outs : List ℕ) (clocks : ℕ)
    (rows : fitting_rows clocks (input_widths N) ins ≡ true) (room : room_for_rows clocks (output_widths N) outs ≡ true) (state : fitting_bytes (state_widths N) st ≡ true) where
  abbrev state_now : ℕ → List ℕ
  state_now i = states_from N (words_in st) (row_words N ins) i

  abbrev outputs_now : ℕ → List ℕ
  outputs_now i = bytes_of (run_outputs N (state_now i) (row_words N ins i))

  abbrev entry : ℕ → Entry
  entry = entry_at N ins outs

  one_run : (i : ℕ) → i < clocks
      → run_file s (bytes_of (state_now i)) (entry i).inputs (entry i).outputs
      ≡ record { answer = Accepted (length (entry i).outputs); state = bytes_of (state_now (suc i)); outputs = outputs_now i }
  unfolding states_from
  one_run i h =
      run_fine s N file (bytes_of (state_now i)) (entry i) (entry-taken N ins clocks rows outs room i h)
      (fitting-bytes (state_widths N) (state_now i) ∙ state_from_fits N ins clocks rows wf st state i (omega arith))
      ∙ rw (words_of_bytes (state_now i))

  -- k runs from the i-th on
  runs_on : (i k : ℕ) → i + k ≤ clocks
      → (state_after s (bytes_of (state_now i)) (map entry (up_from i k)) ≡ bytes_of (state_now (i + k)))
      × (concat_map (λ (x : Shown). x.outputs) (runs_file s (bytes_of (state_now i)) (map entry (up_from i k))) ≡ concat_map outputs_now (up_from i k))
  unfolding state_after runs_file
  runs_on i zero h = (rw add-zero, refl)
  runs_on i (suc k) h =
      let next : suc i + k ≡ i + suc k = omega arith in
      let run = one_run i (omega arith) in
      let later = runs_on (suc i) k (omega arith) in (
        ap (λ (r : Ran). state_after s r.state (map entry (up_from (suc i) k))) run ∙ later.0 ∙ ap (λ (j : ℕ). bytes_of (state_now j)) next,
        rw run (ap (λ (l : List ℕ). outputs_now i ++ l) later.1),
      )

  -- THE LAW. Where no run was made the state is as it was, so its bytes are to be those of its words
  pub list_words : bytes_of (words_in st) ≡ st
      → run_list_file s st ins outs clocks
      ≡ record {
        answer = Accepted (length outs);
        state = bytes_of (states_from N (words_in st) (row_words N ins) clocks);
        outputs = concat_map (λ i. bytes_of (run_outputs N (states_from N (words_in st) (row_words N ins) i) (row_words N ins i))) (below clocks);
      }
  unfolding entries states_from
  list_words same =
      let r = rw (same, zero-add) at (runs_on 0 clocks (omega arith)) in
      list_file s N file st ins outs clocks ∙ rw (rows, room, state)
      (ap₂ (λ (x y : List ℕ). record { answer = Accepted (length outs); state = x; outputs = y }) r.0 r.1)
