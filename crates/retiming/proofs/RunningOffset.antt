-- Laws of what specs/RunningOffset.antt defines. Assumes nothing.
use Rattle.std.specs.Prelude.{◌≡◌, List, ℕ, ◌≤◌, length}
use Rattle.std.proofs.Common.{sym, ap, subst, ◌∙◌}
use Rattle.netlist.specs.declared.Answer.TheVariants.{Accepted}
use Rattle.netlist.specs.Net.{Net}
use Rattle.netlist.specs.File.{decoded_net}
use Rattle.netlist.specs.Offsets.{fields_of, offset_of}
use Rattle.codec.specs.Bytes.{Bytes}
use Rattle.codec.specs.FieldOffsets.{Running}
use Rattle.codec.proofs.FieldOffsets.{running}
use Rattle.retiming.specs.Rewrite.{rewritten}
use Rattle.retiming.specs.FileRewrite.{IsAccepted, rewritten_file, Rewrote, rewrite_file}
use Rattle.retiming.proofs.RewrittenFile.{past_13, accepted_written, file_is, new-read}
use Rattle.retiming.specs.declared.Mode.TheVariants.{Plain}
use Rattle.retiming.specs.RunningOffset.{new_net}

pub running_offset : (s out : List ℕ) → Bytes s → IsAccepted s → length (rewritten_file s) ≤ length out
    → Running (new_net s) (rewritten_file s) × ((rewrite_file s out).answer ≡ Accepted (offset_of (new_net s) (length (fields_of (new_net s)))))
running_offset s out b a long =
    let t = past_13 Plain s a in
    let N : Net = rewritten t.net in
    let is : new_net s ≡ N = ap decoded_net (new-read Plain s b t).reads in
    let runs : Running (new_net s) (rewritten_file s) = subst (λ (M : Net). Running M (rewritten_file s)) (sym is) (subst (Running N) (sym (file_is Plain s t)) (running N)) in
    (runs, ap (λ (r : Rewrote). r.answer) (accepted_written Plain s out a long) ∙ ap Accepted (sym runs.last))
