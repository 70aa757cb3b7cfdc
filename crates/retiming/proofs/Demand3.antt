-- DEMAND 3, whole. Take any file that the rewriter accepts, and the file that it writes. The new file has no asynchronous ROM, and on the loom nobody can tell it
-- from the old one: start both from reset and give both the same runs, as many as you like; every answer and every output byte is the same, from the first clock
-- on. This rules out a wrong first clock after reset, a clock too early or too late, a run that one of them refuses and the other takes, a port that moves, and a
-- fault that shows up only after a thousand clocks. A run is refused just where the words lent do not fit the ports (15), which are the same for both, and then it
-- is no clock.
-- `s` is the old file, `s'` the new one; `st` and `st'` are the states lent to the reset service, of any content; `es` is the list of runs. Assumes nothing.
use Rattle.std.specs.Prelude.{◌≡◌, false, List, [], ◌∷◌, ◌++◌, ℕ, ◌≤◌, length, drop}
use Rattle.std.proofs.Common.{sym, ap, subst, ◌∙◌}
use Rattle.netlist.specs.declared.Answer.TheVariants.{Accepted}
use Rattle.netlist.specs.Verdict.{Fine}
use Rattle.netlist.specs.File.{file_verdict, ReadAs}
use Rattle.codec.specs.Bytes.{Bytes}
use Rattle.behaviour.specs.Service.{reset_file, Entry, runs_file}
use Rattle.behaviour.specs.Entries.{state_bytes, entry_fits, EachShows, state_after}
use Rattle.behaviour.proofs.FilesRun.{files_run}
use Rattle.retiming.specs.Rewrite.{rewritten}
use Rattle.retiming.specs.FileRewrite.{IsAccepted, rewritten_file, rewrite_file, NoAsynchronous}
use Rattle.retiming.specs.RewrittenFile.{Past13}
use Rattle.retiming.proofs.RewrittenFile.{past_13, accepted_written, netlists_alike, new-read, passes_reader, no_asynchronous}
use Rattle.retiming.specs.declared.Mode.TheVariants.{Plain}

pub demand_3 : (s s' : List ℕ) → Bytes s → IsAccepted s → s' ≡ rewritten_file s
    -- the rewriter writes s' into any output that is long enough, and says how long it is; what is past it stays
    → ((out : List ℕ) → length s' ≤ length out → rewrite_file s out ≡ record { answer = Accepted (length s'); out = s' ++ drop (length s') out })
    -- the reader passes s', and none of its nodes has kind 3
    × (file_verdict s' ≡ Fine)
    × NoAsynchronous s'
    -- the reset service takes both states, and fills them
    × ((st st' : List ℕ) → length st ≡ state_bytes s → length st' ≡ state_bytes s'
    → ((reset_file s st).answer ≡ Accepted (length st))
    × ((reset_file s' st').answer ≡ Accepted (length st'))
    -- every list of runs shows the same, and only 15 comes up, just where an entry does not fit
    × ((es : List Entry)
    → (runs_file s (reset_file s st).state es ≡ runs_file s' (reset_file s' st').state es)
    × EachShows (entry_fits s) es (runs_file s (reset_file s st).state es)
    -- an entry that does not fit, and that is the same for both files, leaves both states as they were
    × ((x : Entry)
    → (entry_fits s' x ≡ entry_fits s x)
    × (entry_fits s x ≡ false
    → (state_after s (reset_file s st).state (es ++ x ∷ []) ≡ state_after s (reset_file s st).state es)
    × (state_after s' (reset_file s' st').state (es ++ x ∷ []) ≡ state_after s' (reset_file s' st').state es)))))
demand_3 s s' b a e =
    let t : Past13 Plain s = past_13 Plain s a in (
      rw e (λ out. accepted_written Plain s out a),
      ap file_verdict e ∙ passes_reader Plain s b t,
      rw e (no_asynchronous Plain s b t),
      files_run s s' t.net (rewritten t.net) (netlists_alike Plain s b t) t.file (subst (λ (x : List ℕ). ReadAs x (rewritten t.net)) (sym e) (new-read Plain s b t)),
    )
