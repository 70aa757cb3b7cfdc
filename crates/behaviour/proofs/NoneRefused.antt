-- A list of runs that one call accepts has no run that is refused by itself: each is answered with the length of its row of the outputs. Assumes nothing.
use Rattle.std.specs.Prelude.{◌≡◌, refl, Bool, true, false, cond, ◌&&◌, ℕ}
use Rattle.std.proofs.Common.{◌∙◌, true≢false, arith}
use mathlib.Core.List.{List, [], ◌∷◌}
use Rattle.lists.specs.Lists.{concat_map}
use Rattle.lists.proofs.BelowLaws.{and_left, and_right}
use Rattle.lists.proofs.ListsLaws.{All, all_listed}
use Rattle.netlist.specs.Net.{Net}
use Rattle.netlist.specs.Checks.{WellFormed}
use Rattle.netlist.proofs.VerdictLaws.{refuses_not}
use Rattle.netlist.specs.File.{ReadAs}
use Rattle.netlist.specs.Verdict.{Fine, Refuses}
use Rattle.behaviour.specs.Run.{run_outputs, run_state}
use Rattle.behaviour.specs.Runs.{input_widths, output_widths, state_widths}
use Rattle.behaviour.proofs.ClockFits.{holders_fit, state_stays_fit}
use Rattle.behaviour.specs.Service.{bytes_of, words_in, room_for, fitting_bytes, Entry, Shown, runs_file}
use Rattle.behaviour.proofs.WordBytes.{length-bytes, fitting-bytes}
use Rattle.behaviour.specs.Lending.{takes_entry}
use Rattle.behaviour.specs.Entries.{EachShows, state_after}
use Rattle.behaviour.proofs.ServiceLaws.{run_fine}
use Rattle.behaviour.proofs.RunsBehave.{entry-fits}
use Rattle.behaviour.proofs.Only15.{outputs_long, room_taken}
use Rattle.behaviour.specs.RunList.{room_for_rows, fitting_rows, entry_at, entries, list_verdict, run_list_file}
use Rattle.behaviour.proofs.RunListLaws.{list_file, entry-taken}

-- neither 15 nor 16
both : (a b : Bool) → cond a (cond b Fine (Refuses 16 65535)) (Refuses 15 65535) ≡ Fine → (a ≡ true) × (b ≡ true)
both true true e = (refl, refl)
both true false e = absurd (refuses_not e)
both false b e = absurd (refuses_not e)

pub list_tests : (N : Net) (st ins outs : List ℕ) (clocks : ℕ) → list_verdict N st ins outs clocks ≡ Fine
    → (fitting_rows clocks (input_widths N) ins ≡ true) × (room_for_rows clocks (output_widths N) outs ≡ true) × (fitting_bytes (state_widths N) st ≡ true)
list_tests N st ins outs clocks v =
    let rows = fitting_rows clocks (input_widths N) ins in
    let room = room_for_rows clocks (output_widths N) outs in
    let t = both (rows && room) (fitting_bytes (state_widths N) st) v in
    (and_left rows room t.0, and_right rows room t.0, t.1)

module _ (s : List ℕ) (N : Net) (wf : WellFormed N) (file : ReadAs s N) where
  -- entries that fit, over a state that fits
  each_taken : (es : List Entry) (st : List ℕ) → All (λ e. takes_entry N e ≡ true) es → fitting_bytes (state_widths N) st ≡ true → EachShows (λ e. true) es (runs_file s st es)
  unfolding runs_file
  each_taken [] st taken fit = tt
  each_taken (e ∷ es) st taken fit =
      let ins = words_in e.inputs in
      let held = holders_fit N (words_in st) (and_right (room_for (state_widths N) st) _ fit) in
      let next = run_state N (words_in st) ins in
      let long = outputs_long N wf (words_in st) ins in
      rw (run_fine s N file st e taken.0 fit) (
        record { answer = refl; as_long = omega (arith, length-bytes (run_outputs N (words_in st) ins), long, room_taken N wf e taken.0); stays = λ k. absurd (true≢false k) },
        each_taken es (bytes_of next) taken.1 (fitting-bytes (state_widths N) next ∙ state_stays_fit N wf (words_in st) ins held (entry-fits N e taken.0)),
      )

  -- THE THEOREM
  pub none_refused : (st ins outs : List ℕ) (clocks : ℕ) → list_verdict N st ins outs clocks ≡ Fine
      → EachShows (λ e. true) (entries N ins outs clocks) (runs_file s st (entries N ins outs clocks))
  unfolding entries
  none_refused st ins outs clocks v =
      let t = list_tests N st ins outs clocks v in
      each_taken (entries N ins outs clocks) st (all_listed (λ e. takes_entry N e ≡ true) (entry_at N ins outs) clocks (entry-taken N ins clocks t.0 outs t.1)) t.2

  -- and the call leaves what they leave
  pub list_runs : (st ins outs : List ℕ) (clocks : ℕ) → list_verdict N st ins outs clocks ≡ Fine
      → let es = entries N ins outs clocks in
      EachShows (λ e. true) es (runs_file s st es)
      × ((run_list_file s st ins outs clocks).state ≡ state_after s st es)
      × ((run_list_file s st ins outs clocks).outputs ≡ concat_map (λ (x : Shown). x.outputs) (runs_file s st es))
  list_runs st ins outs clocks v = (none_refused st ins outs clocks v, rw (list_file s N file st ins outs clocks, v), rw (list_file s N file st ins outs clocks, v))
