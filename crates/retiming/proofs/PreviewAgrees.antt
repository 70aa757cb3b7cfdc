-- Laws of what specs/PreviewAgrees.antt defines. Assumes nothing.
use Rattle.std.specs.Prelude.{◌≡◌, refl, List, ℕ, length}
use Rattle.std.proofs.Common.{sym, ap, subst, ◌∙◌, inl, inr, ⊎_elim, arith}
use Rattle.netlist.specs.File.{Decoded, decode, decoded_net}
use Rattle.codec.specs.Bytes.{Bytes}
use Rattle.retiming.specs.declared.Size.{Size}
use Rattle.retiming.specs.declared.Preview.{Preview}
use Rattle.retiming.specs.declared.Preview.TheVariants.{Fits, Refused}
use Rattle.retiming.specs.Rewrite.{rewritten}
use Rattle.retiming.proofs.PastDebt.{no_debt}
use Rattle.retiming.specs.RewrittenFile.{Past13}
use Rattle.retiming.proofs.RewrittenFile.{past_13, netlists_alike, new-read}
use Rattle.retiming.specs.Preview.{measured, size_of, source_bytes, preview_file}
use Rattle.retiming.specs.LargestLead.{LargestOfAll}
use Rattle.retiming.proofs.LargestLead.{largest_of_all}
use Rattle.retiming.proofs.PreviewLaws.{preview_refused, fits_past, fits-size, not_14, refused-written, fits-written, clocked_kind_4, register_kind_2, length-source-bytes}
use Rattle.retiming.specs.declared.Mode.TheVariants.{Plain}
use Rattle.retiming.specs.PreviewAgrees.{Agrees}

pub preview_agrees : (s l : List ℕ) → Bytes s → Agrees s l (preview_file s l).preview
unfolding size_of measured
preview_agrees s l b = by_preview (preview_file s l).preview refl
  where
    by_preview : (r : Preview) → (preview_file s l).preview ≡ r → Agrees s l r
    by_preview (Fits z) e =
        let t : Past13 Plain s = fits_past s l e in
        let M = rewritten t.net in
        let q : z ≡ size_of t.net = fits-size s l e in (
          λ out long.
              let w = fits-written s l b e out long in
              (w.0, rw w.1 (clocked_kind_4 M ∙ sym (ap (λ (y : Size). y.clocked) q), register_kind_2 M ∙ sym (ap (λ (y : Size). y.registers) q))),
          rw t.file.reads (subst (LargestOfAll t.net) (sym (ap (λ (y : Size). y.lead) q)) (largest_of_all t.net (netlists_alike Plain s b t).old.sourced (no_debt t.net t.debtless).0)),
        )
    by_preview (Refused k p) e =
        ⊎_elim (λ v. inl (not_14 s v, refused-written s v))
        (λ (a, n, q, short).
        let t : Past13 Plain s = past_13 Plain s a in
        let e : length (source_bytes (rewritten (decoded_net (decode s)))) ≡ length (source_bytes (rewritten t.net)) = ap (λ (d : Decoded). length (source_bytes (rewritten (decoded_net d)))) t.file.reads in
        inr (n, q, a, rw (new-read Plain s b t).reads (omega (arith, length-source-bytes (rewritten t.net)))))
        (preview_refused s l e)
