-- A rewritten file of either mode is shorter than 65,536 bytes, and so is one that is previewed. Assumes nothing.
use Rattle.std.specs.Prelude.{◌≡◌, refl, true, false, List, ℕ, ◌≤◌, length, ltb}
use Rattle.std.proofs.Common.{sym, subst, ⊎_elim, arith}
use Rattle.lists.proofs.BelowLaws.{true_or_false}
use Rattle.netlist.specs.Verdict.{Verdict, Fine, Refuses}
use Rattle.codec.specs.Bytes.{Bytes}
use Rattle.retiming.specs.declared.Preview.{Preview}
use Rattle.retiming.specs.declared.Preview.TheVariants.{Fits}
use Rattle.retiming.specs.declared.Preview.TheVariants as preview
use Rattle.retiming.specs.declared.Mode.{Mode}
use Rattle.retiming.specs.FileRewrite.{Rewrote, written, written_after}
use Rattle.retiming.specs.Modes.{mode_file_verdict, mode_file, mode_rewrite}
use Rattle.retiming.proofs.RewrittenFile.{mode_rewrite_lem, past_13, new-length}
use Rattle.retiming.specs.Preview.{preview_file}
use Rattle.retiming.proofs.PreviewLaws.{fits_within}
use Rattle.punqelis.specs.Code.{answer_of}
use Rattle.punqelis.specs.CodeLaws.{LengthWithin, accepted_within, refused_within}

written_within : (b out : List ℕ) → length b ≤ 65535 → LengthWithin 65535 (written b out).answer
unfolding written
written_within b out h =
    ⊎_elim
    (λ (e : ltb (length out) (length b) ≡ true). rw e refused_within)
    (λ (e : ltb (length out) (length b) ≡ false). rw e (accepted_within h))
    (true_or_false (ltb (length out) (length b)))

pub rewrite_within : (mode : Mode) (s out : List ℕ) → Bytes s → LengthWithin 65535 (mode_rewrite mode s out).answer
rewrite_within mode s out b = subst (λ (w : Rewrote). LengthWithin 65535 w.answer) (sym (mode_rewrite_lem mode s out)) (by_verdict (mode_file_verdict mode s) refl)
  where
    by_verdict : (v : Verdict) → mode_file_verdict mode s ≡ v → LengthWithin 65535 (written_after v (mode_file mode s) out).answer
    by_verdict Fine e = written_within (mode_file mode s) out (let l = new-length mode s b (past_13 mode s e) in omega arith)
    by_verdict (Refuses k p) e = refused_within

pub preview_within : (s l : List ℕ) → Bytes s → LengthWithin 65535 (answer_of (preview_file s l).preview)
preview_within s l b = by_preview (preview_file s l).preview refl
  where
    by_preview : (r : Preview) → (preview_file s l).preview ≡ r → LengthWithin 65535 (answer_of r)
    by_preview (Fits z) e = accepted_within {n = z.length} (let n = fits_within s l b e in omega arith)
    by_preview (preview.Refused k p) e = refused_within
