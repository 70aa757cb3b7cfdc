-- Two files whose netlists are alike, from reset and after any list of runs: one call for a list of runs answers alike on both, byte for byte. Assumes nothing.
use Rattle.std.specs.Prelude.{◌≡◌, refl, true, cond, ◌&&◌, List, [], ◌++◌, map, ℕ}
use Rattle.std.proofs.Common.{sym, ap, ap₂, append-nil}
use Rattle.std.proofs.lemmas.List.{append_cancel_left}
use Rattle.lists.specs.Lists.{below, concat_map}
use Rattle.netlist.specs.Net.{Net}
use Rattle.netlist.specs.Checks.{WellFormed}
use Rattle.netlist.specs.File.{ReadAs}
use Rattle.netlist.specs.Verdict.{Verdict, Fine, Refuses}
use Rattle.behaviour.specs.Run.{reset_state}
use Rattle.behaviour.specs.Runs.{input_widths, output_widths, state_widths}
use Rattle.behaviour.specs.Alike.{Alike}
use Rattle.behaviour.specs.Service.{bytes_of, fitting_bytes, Entry, Shown, runs_file}
use Rattle.behaviour.specs.Entries.{state_fits, state_after}
use Rattle.behaviour.proofs.EntriesLaws.{after-append, runs_append}
use Rattle.behaviour.proofs.Only15.{reset_fitted, reset_accepted, states_fit}
use Rattle.behaviour.proofs.FilesAlike.{files_alike}
use Rattle.behaviour.specs.RunList.{row_bytes, byte_row, fitting_rows, room_for_rows, entries, list_by, CallsAlike}
use Rattle.behaviour.proofs.RunListLaws.{list_file}

module _ (s s' st st' : List ℕ) (alike : (es : List Entry) → runs_file s st es ≡ runs_file s' st' es) (es fs : List Entry) where
  -- what holds of every list from reset holds of those that go on
  go_on : runs_file s (state_after s st es) fs ≡ runs_file s' (state_after s' st' es) fs
  go_on = append_cancel_left (runs_file s st es) _ _ (cc (alike es, alike (es ++ fs), runs_append s st es fs, runs_append s' st' es fs))

  -- the call's runs, where it is accepted, and none, where it is refused
  calls_alike : (v : Verdict) (outs : List ℕ)
      → let old = list_by v s fs (state_after s st es) outs in
      let new = list_by v s' fs (state_after s' st' es) outs in
      (old.answer ≡ new.answer)
      × (old.outputs ≡ new.outputs)
      × ((more : List Entry) × (old.state ≡ state_after s st (es ++ more)) × (new.state ≡ state_after s' st' (es ++ more)))
  calls_alike Fine outs = (refl, ap (concat_map (λ (x : Shown). x.outputs)) go_on, (fs, sym (after-append s st es fs), sym (after-append s' st' es fs)))
  calls_alike (Refuses k p) outs = (refl, refl, ([], rw append-nil, rw append-nil))

-- no state from reset on is refused (16), so 15 alone decides
from_reset : (s : List ℕ) (N : Net) → WellFormed N → ReadAs s N → (es : List Entry) → fitting_bytes (state_widths N) (state_after s (bytes_of (reset_state N)) es) ≡ true
unfolding state_fits
from_reset s N wf file es = rw file.reads at (states_fit s N wf file (bytes_of (reset_state N)) (reset_fitted N wf) es)

-- the rows are as wide on both
entries_alike : (N M : Net) → Alike N M → (ins outs : List ℕ) (clocks : ℕ) → entries M ins outs clocks ≡ entries N ins outs clocks
unfolding entries
entries_alike N M ok ins outs clocks =
    ap₂ (λ (is os : List ℕ). map (λ i. record { inputs = byte_row (row_bytes is) ins i; outputs = byte_row (row_bytes os) outs i }) (below clocks)) ok.inputs ok.outputs

-- THE THEOREM, of two files whose netlists are alike
pub files_run_list : (s s' : List ℕ) (N M : Net) → Alike N M → ReadAs s N → ReadAs s' M → CallsAlike s s'
files_run_list s s' N M ok file file' st st' h h' es ins outs clocks =
    let t = state_after s (bytes_of (reset_state N)) es in
    let t' = state_after s' (bytes_of (reset_state M)) es in
    rw (reset_accepted s N ok.old file st h, reset_accepted s' M ok.new file' st' h')
    (rw (list_file s N file t ins outs clocks, list_file s' M file' t' ins outs clocks)
    (rw (from_reset s N ok.old file es, from_reset s' M ok.new file' es, entries_alike N M ok ins outs clocks, ok.inputs, ok.outputs)
    (calls_alike s s' (bytes_of (reset_state N)) (bytes_of (reset_state M)) (files_alike s s' N M ok file file') es (entries N ins outs clocks)
    (cond (fitting_rows clocks (input_widths N) ins && room_for_rows clocks (output_widths N) outs) Fine (Refuses 15 65535)) outs)))
