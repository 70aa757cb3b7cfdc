-- DEMAND 3, FOR A LIST OF RUNS IN ONE CALL. Take a file that the rewriter accepts, plain or with the late start, and the file that it writes. Start both from reset, give
-- both the same runs, one by one or in calls, and then one call more, for as many clocks as you like: the answer and every output byte are the same on both. And of
-- any file: a call that is accepted is just its runs, one after the other, and none of them is refused; it leaves their last state and all that they showed. This rules out
-- a call that skips a clock or makes one too many, mixes up the rows of two clocks, starts again from reset, or is right on the old file alone.
-- `s` is the old file, `s'` the new one; `CallsAlike` is spelled out beside the call's definition. `st` is the state lent, `ins` and `outs` are the rows; `es` are the call's runs. Assumes nothing.
use Rattle.std.specs.Prelude.{◌≡◌, true, List, ℕ}
use Rattle.std.proofs.Common.{sym, subst}
use Rattle.lists.specs.Lists.{concat_map}
use Rattle.netlist.specs.declared.Answer.TheVariants.{Accepted}
use Rattle.netlist.proofs.VerdictLaws.{reader_fine}
use Rattle.netlist.specs.File.{decode, decoded_net, ReadAs}
use Rattle.codec.specs.Bytes.{Bytes}
use Rattle.codec.proofs.DecodeWithin.{decode_within}
use Rattle.behaviour.specs.Service.{Shown, runs_file}
use Rattle.behaviour.specs.Entries.{EachShows, state_after}
use Rattle.behaviour.specs.RunList.{entries, list_verdict, run_list_file, CallsAlike}
use Rattle.behaviour.proofs.RunListLaws.{list_accepted}
use Rattle.behaviour.proofs.NoneRefused.{list_runs}
use Rattle.behaviour.proofs.FilesRunList.{files_run_list}
use Rattle.retiming.specs.Rewrite.{rewritten}
use Rattle.retiming.specs.LateRewrite.{late_started}
use Rattle.retiming.specs.FileRewrite.{IsAccepted, rewritten_file}
use Rattle.retiming.specs.LateFile.{IsLateAccepted, late_file}
use Rattle.retiming.specs.Past.{Past}
use Rattle.retiming.proofs.Past.{past}
use Rattle.retiming.specs.RewrittenFile.{Past13}
use Rattle.retiming.proofs.RewrittenFile.{past_13, netlists_alike, new-read}
use Rattle.retiming.specs.declared.Mode.TheVariants.{Plain, Late}

pub demand_3_list : (s s' : List ℕ) → Bytes s → IsAccepted s → s' ≡ rewritten_file s → CallsAlike s s'
demand_3_list s s' b a e =
    let t : Past13 Plain s = past_13 Plain s a in
    files_run_list s s' t.net (rewritten t.net) (netlists_alike Plain s b t) t.file (subst (λ (x : List ℕ). ReadAs x (rewritten t.net)) (sym e) (new-read Plain s b t))

pub late_start_list : (s s' : List ℕ) → Bytes s → IsLateAccepted s → s' ≡ late_file s → CallsAlike s s'
late_start_list s s' b a e =
    let t : Past13 Late s = past_13 Late s a in
    files_run_list s s' t.net (late_started t.net) (netlists_alike Late s b t) t.file (subst (λ (x : List ℕ). ReadAs x (late_started t.net)) (sym e) (new-read Late s b t))

pub no_run_refused : (s : List ℕ) → Bytes s → (st ins outs : List ℕ) (clocks : ℕ) {n : ℕ} → (run_list_file s st ins outs clocks).answer ≡ Accepted n
    -- the call's runs: each with its row of the inputs, and its row of the outputs
    → let es = entries (decoded_net (decode s)) ins outs clocks in
    -- each by itself is accepted
    EachShows (λ e. true) es (runs_file s st es)
    -- and the call leaves the state that they leave, and what they showed, row after row
    × ((run_list_file s st ins outs clocks).state ≡ state_after s st es)
    × ((run_list_file s st ins outs clocks).outputs ≡ concat_map (λ (x : Shown). x.outputs) (runs_file s st es))
no_run_refused s b st ins outs clocks a =
    let t : Past (λ N. list_verdict N st ins outs clocks) s = past (λ N. list_verdict N st ins outs clocks) s (list_accepted s st ins outs clocks a) in
    rw t.file.reads (list_runs s t.net (reader_fine t.net (decode_within s t.net b t.file.reads).fields t.file.fine) t.file st ins outs clocks t.debtless)
