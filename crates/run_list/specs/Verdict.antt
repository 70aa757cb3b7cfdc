-- 15 and 16 of a list of runs, by the tests that the code makes. Assumes nothing.
use Rattle.std.specs.Prelude.{◌≡◌, refl, Bool, true, false, ◌&&◌, List, ℕ, ◌*◌, ◌≤◌, length, take}
use Rattle.std.proofs.Common.{sym, ap, ◌∙◌, length-take-le}
use Rattle.std.proofs.Math.Bool.{cond}
use Rattle.netlist.specs.Net.{Net}
use Rattle.netlist.specs.Verdict.{Fine, Refuses}
use Rattle.behaviour.specs.Runs.{input_widths, output_widths, state_widths}
use Rattle.behaviour.specs.Service.{fitting_bytes}
use Rattle.behaviour.specs.RunList.{row_bytes, room_for_rows, fitting_rows, list_verdict}
use Rattle.evaluate.specs.Rows.{row_members, row_widths}
use Rattle.evaluate.specs.declared.Row.{Row}
use Rattle.evaluate.specs.declared.Row.TheVariants.{Inputs, Outputs, State}
use Rattle.run_list.specs.Rows.{row_length}

-- two bytes for each of the first k of a work area, which are a row's members
pub members_length : (N : Net) (row : Row) {k : ℕ} (l : List ℕ) → (take k l ≡ row_members row N) × (k ≤ length l) → 2 * k ≡ row_bytes (row_widths row N)
members_length N row {k} l m = ap (2 *◌) (sym (length-take-le k l m.1)) ∙ row_length N row m.0

module _ (N : Net) (st ins outs : List ℕ) (clocks : ℕ) where
  by_tests : {a b c : Bool} → fitting_rows clocks (row_widths Inputs N) ins ≡ a → room_for_rows clocks (row_widths Outputs N) outs ≡ b → fitting_bytes (row_widths State N) st ≡ c
      → list_verdict N st ins outs clocks ≡ cond (a && b) (cond c Fine (Refuses 16 65535)) (Refuses 15 65535)
  unfolding input_widths output_widths state_widths
  by_tests p q r = λ i. cond (p i && q i) (cond (r i) Fine (Refuses 16 65535)) (Refuses 15 65535)

  module _ (p : fitting_rows clocks (row_widths Inputs N) ins ≡ true) where
    module _ (q : room_for_rows clocks (row_widths Outputs N) outs ≡ true) where
      pub list_fine : fitting_bytes (row_widths State N) st ≡ true → Fine ≡ list_verdict N st ins outs clocks
      list_fine r = sym (by_tests p q r)

      pub list_state : fitting_bytes (row_widths State N) st ≡ false → Refuses 16 65535 ≡ list_verdict N st ins outs clocks
      list_state r = sym (by_tests p q r)

    pub list_outputs : room_for_rows clocks (row_widths Outputs N) outs ≡ false → Refuses 15 65535 ≡ list_verdict N st ins outs clocks
    list_outputs q = sym (by_tests p q refl)

  pub list_inputs : fitting_rows clocks (row_widths Inputs N) ins ≡ false → Refuses 15 65535 ≡ list_verdict N st ins outs clocks
  list_inputs p = sym (by_tests p refl refl)
