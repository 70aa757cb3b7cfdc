-- Two files whose netlists are alike, from reset: the reset service takes both states, every list of runs shows the same on both, and a run is refused (15) just
-- where its entry does not fit, and then is no clock. Assumes nothing.
use Rattle.std.specs.Prelude.{◌≡◌, false, List, [], ◌∷◌, ◌++◌, ℕ, length}
use Rattle.std.proofs.Common.{ap, ◌∙◌}
use Rattle.netlist.specs.declared.Answer.TheVariants.{Accepted}
use Rattle.netlist.specs.Net.{Net}
use Rattle.netlist.specs.File.{ReadAs}
use Rattle.behaviour.specs.Run.{reset_state}
use Rattle.behaviour.specs.Alike.{Alike}
use Rattle.behaviour.specs.Service.{bytes_of, Filled, reset_file, Entry, runs_file}
use Rattle.behaviour.specs.Entries.{state_bytes, entry_fits, EachShows, state_after}
use Rattle.behaviour.proofs.Only15.{reset_fitted, reset_accepted, each_shows}
use Rattle.behaviour.proofs.NoClock.{no_clock}
use Rattle.behaviour.proofs.FilesAlike.{files_alike, fits_alike}

pub files_run : (s s' : List ℕ) (N M : Net) → Alike N M → ReadAs s N → ReadAs s' M
    → (st st' : List ℕ) → length st ≡ state_bytes s → length st' ≡ state_bytes s'
    → ((reset_file s st).answer ≡ Accepted (length st))
    × ((reset_file s' st').answer ≡ Accepted (length st'))
    × ((es : List Entry)
    → (runs_file s (reset_file s st).state es ≡ runs_file s' (reset_file s' st').state es)
    × EachShows (entry_fits s) es (runs_file s (reset_file s st).state es)
    × ((x : Entry)
    → (entry_fits s' x ≡ entry_fits s x)
    × (entry_fits s x ≡ false
    → (state_after s (reset_file s st).state (es ++ x ∷ []) ≡ state_after s (reset_file s st).state es)
    × (state_after s' (reset_file s' st').state (es ++ x ∷ []) ≡ state_after s' (reset_file s' st').state es))))
files_run s s' N M ok file file' st st' h h' =
    let r = reset_accepted s N ok.old file st h in
    let r' = reset_accepted s' M ok.new file' st' h' in (
      ap (λ (x : Filled). x.answer) r,
      ap (λ (x : Filled). x.answer) r',
      λ es. (
        rw r (rw r' (files_alike s s' N M ok file file' es)),
        rw r (each_shows s N ok.old file (bytes_of (reset_state N)) (reset_fitted N ok.old) es),
        λ x. (
          fits_alike s s' N M ok file file' x,
          λ f. (
            no_clock s N file (reset_file s st).state es x f,
            no_clock s' M file' (reset_file s' st').state es x (fits_alike s s' N M ok file file' x ∙ f),
          ),
        ),
      ),
    )
