-- "A refused run is no clock: .. the next run goes on from there": an entry that does not fit leaves the state as it was, whatever ran before it. Assumes nothing.
use Rattle.std.specs.Prelude.{◌≡◌, ◌&&◌, List, [], ◌∷◌, ◌++◌, ℕ}
use Rattle.std.proofs.Math.Path.{refl, sym, ap}
use Rattle.std.proofs.Common.{◌∙◌}
use Rattle.std.proofs.Math.Bool.{false}
use Rattle.netlist.specs.Net.{Net}
use Rattle.netlist.specs.File.{Decoded, ReadAs}
use Rattle.behaviour.specs.Runs.{input_widths, output_widths}
use Rattle.behaviour.specs.Service.{fitting_bytes, room_for, Ran, run_net, run_file, Entry}
use Rattle.behaviour.specs.Lending.{takes_entry}
use Rattle.behaviour.specs.Entries.{state_after, entry_fits_of, entry_fits}
use Rattle.behaviour.proofs.EntriesLaws.{after-append}
use Rattle.behaviour.proofs.ServiceLaws.{run_file_lem}

module _ (s : List ℕ) (N : Net) (file : ReadAs s N) where
  stays : (st : List ℕ) (e : Entry) → entry_fits s e ≡ false → (run_file s st e.inputs e.outputs).state ≡ st
  unfolding entry_fits run_net takes_entry
  stays st e f =
      let t : (fitting_bytes (input_widths N) e.inputs && room_for (output_widths N) e.outputs) ≡ false = sym (ap (λ (d : Decoded). entry_fits_of d e) file.reads) ∙ f in
      ap (λ (r : Ran). r.state) (run_file_lem s N file st e.inputs e.outputs) ∙ rw t refl

  pub no_clock : (st : List ℕ) (es : List Entry) (e : Entry) → entry_fits s e ≡ false → state_after s st (es ++ e ∷ []) ≡ state_after s st es
  unfolding state_after
  no_clock st es e f = after-append s st es (e ∷ []) ∙ stays (state_after s st es) e f
