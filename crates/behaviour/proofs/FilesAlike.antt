-- Two files whose netlists are alike answer every list of runs alike, byte for byte, each over its own state from reset; also where each entry is
-- chosen after what the runs before it showed. Assumes nothing.
use Rattle.std.specs.Prelude.{◌≡◌, ◌&&◌}
use Rattle.std.proofs.Math.Path.{refl, ap}
use Rattle.std.proofs.Common.{sym, ap₂, ◌∙◌}
use mathlib.Core.List.{List, [], ◌∷◌, ◌++◌, map}
use Prim.Native.Nat.{ℕ, zero, suc}
use Rattle.netlist.specs.Net.{Net}
use Rattle.netlist.specs.File.{Decoded, ReadAs}
use Rattle.behaviour.specs.Run.{reset_state}
use Rattle.behaviour.specs.Alike.{Alike}
use Rattle.behaviour.proofs.Alike.{runs_alike}
use Rattle.behaviour.specs.Service.{bytes_of, fitting_bytes, room_for, Entry, Shown, runs_file}
use Rattle.behaviour.specs.Lending.{takes_entry}
use Rattle.behaviour.proofs.Lending.{lent}
use Rattle.behaviour.specs.Entries.{entry_fits_of, entry_fits, chosen}
use Rattle.behaviour.proofs.ServiceLaws.{shown_all, runs-words}

pub files_alike : (s s' : List ℕ) (N M : Net) → Alike N M → ReadAs s N → ReadAs s' M
    → (es : List Entry) → runs_file s (bytes_of (reset_state N)) es ≡ runs_file s' (bytes_of (reset_state M)) es
files_alike s s' N M ok file file' es =
    runs-words s N ok.old file (reset_state N) es
    ∙ ap (shown_all es) (sym (runs_alike N M ok (map lent es)))
    ∙ sym (runs-words s' M ok.new file' (reset_state M) es)

-- 15's condition is one for both
pub fits_alike : (s s' : List ℕ) (N M : Net) → Alike N M → ReadAs s N → ReadAs s' M → (e : Entry) → entry_fits s' e ≡ entry_fits s e
unfolding entry_fits takes_entry
fits_alike s s' N M ok file file' e =
    ap (λ (x : Decoded). entry_fits_of x e) file'.reads
    ∙ ap₂ (λ (is os : List ℕ). fitting_bytes is e.inputs && room_for os e.outputs) ok.inputs ok.outputs
    ∙ sym (ap (λ (x : Decoded). entry_fits_of x e) file.reads)

-- what holds of every list holds of one that is chosen on the way
module _ (s s' st st' : List ℕ) (alike : (es : List Entry) → runs_file s st es ≡ runs_file s' st' es) (choose : List Shown → Entry) where
  pub chosen_alike : (k : ℕ) → chosen s st choose k ≡ chosen s' st' choose k
  unfolding chosen
  chosen_alike zero = refl
  chosen_alike (suc k) =
      ap (λ (es : List Entry). es ++ choose (runs_file s st es) ∷ []) (chosen_alike k)
      ∙ ap (λ (xs : List Shown). chosen s' st' choose k ++ choose xs ∷ []) (alike (chosen s' st' choose k))

  pub plays_alike : (k : ℕ) → runs_file s st (chosen s st choose k) ≡ runs_file s' st' (chosen s' st' choose k)
  plays_alike k = alike (chosen s st choose k) ∙ ap (runs_file s' st') (chosen_alike k)
