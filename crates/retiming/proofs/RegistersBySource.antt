-- Laws of what specs/RegistersBySource.antt defines. Assumes nothing.
use Rattle.std.specs.Prelude.{◌≡◌, refl, List, ◌++◌, ℕ, ◌*◌, length, drop}
use Rattle.std.proofs.Common.{sym, ap, ◌∙◌}
use Rattle.codec.specs.Bytes.{Bytes}
use Rattle.behaviour.specs.Service.{bytes_of}
use Rattle.behaviour.proofs.WordBytes.{length-bytes}
use Rattle.retiming.specs.declared.Size.{Size}
use Rattle.retiming.specs.declared.Preview.{Preview}
use Rattle.retiming.specs.declared.Preview.TheVariants.{Fits, Refused}
use Rattle.retiming.specs.Rewrite.{rewritten}
use Rattle.retiming.proofs.Wires.{wire_next, wire_none}
use Rattle.retiming.specs.RewrittenFile.{Past13}
use Rattle.retiming.specs.BySource.{by_source}
use Rattle.retiming.proofs.BySourceLaws.{from_source}
use Rattle.retiming.proofs.NewRegisters.{new_sourced, new_rooted, sum_by_source, sum_by_reader}
use Rattle.retiming.specs.Preview.{measured, size_of, source_bytes, preview_file}
use Rattle.retiming.proofs.PreviewLaws.{fits_past, fits-size, fits_room, fits_list, fits-written, refused_list}
use Rattle.retiming.specs.declared.Mode.TheVariants.{Plain}
use Rattle.retiming.specs.RegistersBySource.{GivesList}

pub registers_by_source : (s l : List ℕ) → Bytes s → GivesList s l (preview_file s l).list (preview_file s l).preview
unfolding size_of measured source_bytes
registers_by_source s l b = by_preview (preview_file s l).preview refl
  where
    by_preview : (r : Preview) → (preview_file s l).preview ≡ r → GivesList s l (preview_file s l).list r
    by_preview (Fits z) e =
        let t : Past13 Plain s = fits_past s l e in
        let M = rewritten t.net in
        let q : z ≡ size_of t.net = fits-size s l e in
        let n : length (by_source M) ≡ z.sources = sym (ap (λ (y : Size). y.sources) q) in
        let m : length (bytes_of (by_source M)) ≡ 2 * z.sources = length-bytes (by_source M) ∙ ap (λ (k : ℕ). 2 * k) n in
        let g = sym (ap (λ (y : Size). y.registers) q) in
        λ out long. rw (fits-written s l b e out long).1 (
          n,
          fits_room s l e,
          fits_list s l e ∙ ap (λ (k : ℕ). bytes_of (by_source M) ++ drop k l) m,
          sum_by_source s b t ∙ g,
          sum_by_reader s b t ∙ g,
          λ u v other h. from_source M (new_sourced s b t) (new_rooted s b t) u other v h,
          λ v. (λ other. (wire_none M v other).1, λ h r. (wire_next M (new_rooted s b t) v h r).1),
        )
    by_preview (Refused k p) e = refused_list s l e
