-- A list of runs over an opened netlist, and that the file's list is that. Assumes nothing.
use Rattle.std.specs.Prelude.{◌≡◌, true, List, ℕ, ◌*◌, ◌/◌, length}
use Rattle.std.proofs.Math.Path.{refl, ap}
use Rattle.std.proofs.Common.{sym, ◌∙◌, zero-add, arith}
use Rattle.lists.specs.Lists.{below, concat_map}
use Rattle.lists.proofs.BelowLaws.{and_left, eqb-true}
use Rattle.netlist.specs.Net.{in_clock, Net}
use Rattle.netlist.specs.Checks.{WellFormed}
use Rattle.netlist.specs.File.{ReadAs, answer, given}
use Rattle.netlist.specs.Verdict.{Verdict, Fine, Refuses}
use Rattle.codec.specs.Bytes.{Bytes}
use Rattle.codec.proofs.WordsLaws.{last_words}
use Rattle.circuit.specs.Order.{Complete}
use Rattle.behaviour.specs.Runs.{input_widths, output_widths, state_widths}
use Rattle.behaviour.specs.Service.{bytes_of, words_in, room_for, fitting_bytes, Ran}
use Rattle.behaviour.specs.RunList.{room_for_rows, fitting_rows, entries, list_verdict, list_by, run_list_file}
use Rattle.behaviour.specs.RunListLaws.{states_from, row_words}
use Rattle.behaviour.proofs.RunListLaws.{list_file, list_words}
use Rattle.behaviour.proofs.NoneRefused.{list_tests}
use Rattle.evaluate.specs.Clock.{Inside}
use Rattle.run_list.specs.Clocks.{shown_at}

-- by the verdict: the state and the outputs of the netlist, clock by clock; or both as they were
abbrev pub net_by : Verdict → Net → List ℕ → List ℕ → List ℕ → ℕ → Ran
net_by v N st ins outs clocks = record {
  answer = answer v (length outs);
  state = given v (bytes_of (states_from N (words_in st) (row_words N ins) clocks)) st;
  outputs = given v (concat_map (shown_at N (words_in st) ins) (below clocks)) outs;
}

unfoldable pub list_net : Net → List ℕ → List ℕ → List ℕ → ℕ → Ran
list_net N st ins outs clocks = net_by (list_verdict N st ins outs clocks) N st ins outs clocks

-- all that is asked before the first clock
pub record Asked (N : Net) (order st ins outs : List ℕ) (clocks : ℕ) : Type 0 where
  pub formed : WellFormed N
  pub inside : Inside N
  pub ordered : Complete in_clock N order
  pub rows : fitting_rows clocks (input_widths N) ins ≡ true
  pub room : room_for_rows clocks (output_widths N) outs ≡ true
  pub state : fitting_bytes (state_widths N) st ≡ true

module _ (N : Net) (st ins outs : List ℕ) (clocks : ℕ) where
  pub net_as : {v : Verdict} → v ≡ list_verdict N st ins outs clocks → list_net N st ins outs clocks ≡ net_by v N st ins outs clocks
  unfolding list_net
  net_as e = ap (λ (v : Verdict). net_by v N st ins outs clocks) (sym e)

  -- a state that fits is the bytes of its words
  bytes_back : Bytes st → fitting_bytes (state_widths N) st ≡ true → bytes_of (words_in st) ≡ st
  bytes_back b f =
      let e : length st ≡ 2 * length (state_widths N) = eqb-true (and_left (room_for (state_widths N) st) _ f) in
      simp zero-add at (last_words st b 0 (length st / 2) (omega arith))

  -- THE LAW
  pub list_net_lem : (s : List ℕ) → ReadAs s N → WellFormed N → Bytes st → run_list_file s st ins outs clocks ≡ list_net N st ins outs clocks
  unfolding list_net
  list_net_lem s file wf b = by_verdict (list_verdict N st ins outs clocks) refl
    where
      by_verdict : (v : Verdict) → list_verdict N st ins outs clocks ≡ v → run_list_file s st ins outs clocks ≡ net_by (list_verdict N st ins outs clocks) N st ins outs clocks
      by_verdict Fine e =
          let t = list_tests N st ins outs clocks e in
          list_words s N wf file st ins outs clocks t.0 t.1 t.2 (bytes_back b t.2) ∙ ap (λ (v : Verdict). net_by v N st ins outs clocks) (sym e)
      by_verdict (Refuses k p) e =
          list_file s N file st ins outs clocks ∙ ap (λ (v : Verdict). list_by v s (entries N ins outs clocks) st outs) e ∙ ap (λ (v : Verdict). net_by v N st ins outs clocks) (sym e)
