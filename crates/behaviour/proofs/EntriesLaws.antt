-- A list of runs behind another goes on from the state that the first one leaves. Assumes nothing.
use Rattle.std.specs.Prelude.{◌≡◌, ℕ}
use Rattle.std.proofs.Math.Path.{refl}
use mathlib.Core.List.{List, [], ◌∷◌, ◌++◌}
use Rattle.behaviour.specs.Service.{run_file, Entry, runs_file}
use Rattle.behaviour.specs.Entries.{state_after}

module _ (s : List ℕ) where
  pub after-append : (st : List ℕ) (es fs : List Entry) → state_after s st (es ++ fs) ≡ state_after s (state_after s st es) fs
  unfolding state_after
  after-append st [] fs = refl
  after-append st (e ∷ es) fs = after-append (run_file s st e.inputs e.outputs).state es fs

  pub runs_append : (st : List ℕ) (es fs : List Entry) → runs_file s st (es ++ fs) ≡ runs_file s st es ++ runs_file s (state_after s st es) fs
  unfolding runs_file state_after
  runs_append st [] fs = refl
  runs_append st (e ∷ es) fs = rw (runs_append (run_file s st e.inputs e.outputs).state es fs)
