-- What follows from demand 3: an operator who looks at the answers before choosing the next entry sees no difference either, and no state ever stops fitting.
-- Assumes nothing.
use Rattle.std.specs.Prelude.{◌≡◌, true, List, ℕ, length}
use Rattle.std.proofs.Common.{sym, subst}
use Rattle.netlist.specs.File.{ReadAs}
use Rattle.codec.specs.Bytes.{Bytes}
use Rattle.behaviour.specs.Run.{reset_state}
use Rattle.behaviour.specs.Service.{bytes_of, reset_file, Entry, Shown, runs_file}
use Rattle.behaviour.specs.Entries.{state_bytes, state_fits, state_after, chosen}
use Rattle.behaviour.proofs.Only15.{reset_fitted, reset_accepted, states_fit}
use Rattle.behaviour.proofs.FilesAlike.{plays_alike}
use Rattle.retiming.specs.Rewrite.{rewritten}
use Rattle.retiming.specs.FileRewrite.{IsAccepted, rewritten_file}
use Rattle.retiming.specs.RewrittenFile.{Past13}
use Rattle.retiming.proofs.RewrittenFile.{past_13, netlists_alike, new-read}
use Rattle.retiming.proofs.Demand3.{demand_3}
use Rattle.retiming.specs.declared.Mode.TheVariants.{Plain}

module _ (s s' : List ℕ) (b : Bytes s) (a : IsAccepted s) (e : s' ≡ rewritten_file s) (st st' : List ℕ) (h : length st ≡ state_bytes s) (h' : length st' ≡ state_bytes s') where
  -- each of the first k entries is chosen after what the runs before it showed
  pub demand_3_chosen : (choose : List Shown → Entry) (k : ℕ)
      → runs_file s (reset_file s st).state (chosen s (reset_file s st).state choose k)
      ≡ runs_file s' (reset_file s' st').state (chosen s' (reset_file s' st').state choose k)
  demand_3_chosen choose k =
      plays_alike s s' (reset_file s st).state (reset_file s' st').state (λ es. (((demand_3 s s' b a e).3 st st' h h').2 es).0) choose k

  -- 16 never comes up, in neither file
  pub demand_3_states : (es : List Entry)
      → (state_fits s (state_after s (reset_file s st).state es) ≡ true) × (state_fits s' (state_after s' (reset_file s' st').state es) ≡ true)
  demand_3_states es =
      let t : Past13 Plain s = past_13 Plain s a in
      let ok = netlists_alike Plain s b t in
      let file' = subst (λ (x : List ℕ). ReadAs x (rewritten t.net)) (sym e) (new-read Plain s b t) in (
        rw (reset_accepted s t.net ok.old t.file st h) (states_fit s t.net ok.old t.file (bytes_of (reset_state t.net)) (reset_fitted t.net ok.old) es),
        rw (reset_accepted s' (rewritten t.net) ok.new file' st' h')
            (states_fit s' (rewritten t.net) ok.new file' (bytes_of (reset_state (rewritten t.net))) (reset_fitted (rewritten t.net) ok.new) es),
      )
