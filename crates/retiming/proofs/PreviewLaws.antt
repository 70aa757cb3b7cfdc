-- What the preview tells of the rewriter's verdict, and of the file that the rewriter writes. Assumes nothing.
use Rattle.std.specs.Prelude.{◌≡◌, refl, ◌⊎◌, not, ℕ, ◌*◌, ◌≤◌, ◌<◌, take, eqb}
use Rattle.std.proofs.Math.Path.{sym, ap}
use Rattle.std.proofs.Common.{ap₂, subst, ◌∙◌, arith}
use Rattle.std.proofs.Math.Logic.{inl, inr, ⊎_elim}
use mathlib.Core.List.{List, ◌++◌}
use Rattle.std.proofs.Math.ListN.{length, drop}
use Rattle.std.proofs.Math.Seq.{take-append_seam}
use Rattle.lists.proofs.BelowLaws.{count_below-le}
use Rattle.netlist.specs.Net.{Net, size, element_at, is_register, is_clocked, count_of}
use Rattle.netlist.specs.NodeField.{kind_of}
use Rattle.netlist.specs.Verdict.{onward, reader_stages, Verdict, Fine, Refuses}
use Rattle.netlist.proofs.VerdictLaws.{both_fine, first_or_next}
use Rattle.netlist.specs.Numbers.{Says, SaysEach}
use Rattle.netlist.proofs.Numbers.{says_verdict, says_onward, says_file}
use Rattle.netlist.specs.File.{Decoded, good, decode, decoded_net, file_verdict, given}
use Rattle.netlist.specs.declared.Element.{Element}
use Rattle.netlist.specs.declared.Element.TheVariants.{Input, Output, Register, Async, Clocked, Gate}
use Rattle.netlist.specs.declared.Answer.TheVariants.{Accepted}
use Rattle.netlist.specs.declared.Answer.TheVariants as answer
use Rattle.codec.specs.Bytes.{Bytes}
use Rattle.behaviour.proofs.WordBytes.{length-bytes}
use Rattle.retiming.specs.declared.Size.{Size}
use Rattle.retiming.specs.declared.Preview.TheVariants.{Fits, Refused}
use Rattle.retiming.specs.Debt.{debt_stages, debt_verdict}
use Rattle.retiming.specs.Rewrite.{rewritten}
use Rattle.retiming.specs.FileRewrite.{rewriter_verdict, IsAccepted, rewritten_file, out_verdict, Rewrote, written_after, rewrite_file}
use Rattle.retiming.proofs.OutLaws.{out_long, out_fine, out_refuses}
use Rattle.retiming.specs.RewrittenFile.{Past13}
use Rattle.retiming.proofs.RewrittenFile.{past_13, file_is, netlists_alike, accepted_written, new-read, new-length}
use Rattle.retiming.specs.BySource.{by_source}
use Rattle.retiming.proofs.BySourceLaws.{length_by_source}
use Rattle.retiming.specs.Preview.{measured, size_of, preview_by, source_bytes, preview_file}
use Rattle.retiming.specs.declared.Mode.TheVariants.{Plain}

-- ---- the verdict behind a preview

by_fits : (v : Verdict) (y : Size) {z : Size} → preview_by v y ≡ Fits z → (v ≡ Fine) × (z ≡ y)
by_fits Fine y e = (refl, cc)
by_fits (Refuses k p) y e = let z : ◌≡◌ {A = ℕ} 0 1 = cc in absurd (omega arith)

by_refused : (v : Verdict) (y : Size) {k p : ℕ} → preview_by v y ≡ Refused k p → v ≡ Refuses k p
by_refused Fine y e = let z : ◌≡◌ {A = ℕ} 0 1 = cc in absurd (omega arith)
by_refused (Refuses m q) y e = cc

-- what the list is to have
abbrev bytes : List ℕ → List ℕ
bytes s = source_bytes (rewritten (decoded_net (decode s)))

module _ (s l : List ℕ) where
  -- refused as the rewriting, or by 14
  pub preview_refused : {k p : ℕ} → (preview_file s l).preview ≡ Refused k p
      → (rewriter_verdict s ≡ Refuses k p) ⊎ (IsAccepted s × (k ≡ 14) × (p ≡ 65535) × (length l < length (bytes s)))
  unfolding preview_file
  preview_refused e =
      ⊎_elim inl (λ (a, o). let n = out_refuses (bytes s) l o in inr (a, n.0, n.1, n.2)) (first_or_next (rewriter_verdict s) (out_verdict (bytes s) l) (by_refused (onward (rewriter_verdict s) (out_verdict (bytes s) l)) (size_of (decoded_net (decode s))) e))

  -- and then the list is as it was
  pub refused_list : {k p : ℕ} → (preview_file s l).preview ≡ Refused k p → (preview_file s l).list ≡ l
  unfolding preview_file
  refused_list e = ap (λ (v : Verdict). given v (bytes s ++ drop (length (bytes s)) l) l) (by_refused (onward (rewriter_verdict s) (out_verdict (bytes s) l)) (size_of (decoded_net (decode s))) e)

-- where there is a size, the file is accepted, and this is the size of its netlist
module _ (s l : List ℕ) {z : Size} (e : (preview_file s l).preview ≡ Fits z) where
  fits : (onward (rewriter_verdict s) (out_verdict (bytes s) l) ≡ Fine) × (z ≡ size_of (decoded_net (decode s)))
  unfolding preview_file
  fits = by_fits (onward (rewriter_verdict s) (out_verdict (bytes s) l)) (size_of (decoded_net (decode s))) e

  fits_accepted : IsAccepted s
  fits_accepted = (both_fine (rewriter_verdict s) (out_verdict (bytes s) l) fits.0).0

  pub fits_past : Past13 Plain s
  fits_past = past_13 Plain s fits_accepted

  pub fits-size : z ≡ size_of fits_past.net
  fits-size = fits.1 ∙ ap (λ (d : Decoded). size_of (decoded_net d)) fits_past.file.reads

  fits-length : z.length ≡ length (rewritten_file s)
  unfolding size_of measured
  fits-length = ap (λ (y : Size). y.length) fits-size ∙ sym (ap (λ (b : List ℕ). length b) (file_is Plain s fits_past))

  fits-bytes : bytes s ≡ source_bytes (rewritten fits_past.net)
  fits-bytes = ap (λ (d : Decoded). source_bytes (rewritten (decoded_net d))) fits_past.file.reads

  -- the numbers have room in the list and stand there, and its other bytes stay
  pub fits_room : 2 * z.sources ≤ length l
  unfolding size_of measured source_bytes
  fits_room =
      let v = both_fine (rewriter_verdict s) (out_verdict (bytes s) l) fits.0 in
      omega (arith, out_fine (bytes s) l v.1, ap (λ (b : List ℕ). length b) fits-bytes, length-bytes (by_source (rewritten fits_past.net)), ap (λ (y : Size). y.sources) fits-size)

  pub fits_list : (preview_file s l).list ≡ source_bytes (rewritten fits_past.net) ++ drop (length (source_bytes (rewritten fits_past.net))) l
  unfolding preview_file
  fits_list =
      ap (λ (v : Verdict). given v (bytes s ++ drop (length (bytes s)) l) l) fits.0
      ∙ ap (λ (b : List ℕ). b ++ drop (length b) l) fits-bytes

-- ---- none of 1 to 13, nor 17 among them, is 14

abbrev Not14 : ℕ → Type 0
Not14 k = k ≡ 14 → ⊥

from_6 : (N : Net) → SaysEach Not14 (reader_stages N)
unfolding reader_stages
from_6 N = (λ e. omega arith, (λ e. omega arith, (λ e. omega arith, (λ e. omega arith, (λ e. omega arith, (λ e. omega arith, tt))))))

from_11 : (N : Net) → SaysEach Not14 (debt_stages N)
unfolding debt_stages
from_11 N = (λ e. omega arith, (λ e. omega arith, (λ e. omega arith, tt)))

pub not_14 : (s : List ℕ) {k p : ℕ} → rewriter_verdict s ≡ Refuses k p → k ≡ 14 → ⊥
unfolding rewriter_verdict debt_verdict
not_14 s e =
    let N = decoded_net (decode s) in
    subst (Says Not14) e
    (says_onward Not14 (file_verdict s) (debt_verdict N)
    (says_file Not14 (λ e. omega arith) (λ e. omega arith) (λ e. omega arith) (λ e. omega arith) (λ e. omega arith) from_6 s)
    (says_verdict Not14 (debt_stages N) (from_11 N)))

-- ---- the rewriting that it speaks of

pub refused-written : (s : List ℕ) {k p : ℕ} → rewriter_verdict s ≡ Refuses k p → (out : List ℕ) → rewrite_file s out ≡ record { answer = answer.Refused k p; out = out }
unfolding rewrite_file
refused-written s e out = ap (λ (v : Verdict). written_after v (rewritten_file s) out) e

module _ (s l : List ℕ) (b : Bytes s) {z : Size} (e : (preview_file s l).preview ≡ Fits z) where
  -- no longer than document 01's limits allow
  pub fits_within : z.length ≤ 45175
  fits_within = omega (arith, fits-length s l e, new-length Plain s b (fits_past s l e))

  -- as long as the preview says, and read as the rewritten netlist
  pub fits-written : (out : List ℕ) → z.length ≤ length out
      → ((rewrite_file s out).answer ≡ Accepted z.length) × (decode (take z.length (rewrite_file s out).out) ≡ good (rewritten (fits_past s l e).net))
  fits-written out long =
      let n = fits-length s l e in
      let f = rewritten_file s in
      let w = accepted_written Plain s out (fits_accepted s l e) (omega arith) in (
        ap (λ (r : Rewrote). r.answer) w ∙ ap Accepted (sym n),
        ap (λ (r : Rewrote). decode (take z.length r.out)) w
            ∙ ap (λ (k : ℕ). decode (take k (f ++ drop (length f) out))) n
            ∙ ap decode (take-append_seam f (drop (length f) out))
            ∙ (new-read Plain s b (fits_past s l e)).reads,
      )

-- a class by its number in the file
kind_4 : (e : Element) → eqb (kind_of e) 4 ≡ is_clocked e
kind_4 Input = refl
kind_4 Output = refl
kind_4 (Register r) = refl
kind_4 (Async m) = refl
kind_4 (Clocked m r) = refl
kind_4 (Gate o) = refl

kind_2 : (e : Element) → eqb (kind_of e) 2 ≡ is_register e
kind_2 Input = refl
kind_2 Output = refl
kind_2 (Register r) = refl
kind_2 (Async m) = refl
kind_2 (Clocked m r) = refl
kind_2 (Gate o) = refl

pub clocked_kind_4 : (M : Net) → count_of (λ e. eqb (kind_of e) 4) M ≡ count_of is_clocked M
clocked_kind_4 M = λ i. count_of (λ e. kind_4 e i) M

pub register_kind_2 : (M : Net) → count_of (λ e. eqb (kind_of e) 2) M ≡ count_of is_register M
register_kind_2 M = λ i. count_of (λ e. kind_2 e i) M

-- 14: two bytes for each node of another kind than 2
pub length-source-bytes : (M : Net) → length (source_bytes M) ≡ 2 * count_of (λ e. not (eqb (kind_of e) 2)) M
unfolding source_bytes
length-source-bytes M =
    length-bytes (by_source M) ∙ ap (λ (n : ℕ). 2 * n) (length_by_source M ∙ (λ i. count_of (λ e. not (sym (kind_2 e) i)) M))

-- so 2,048 bytes are always enough
pub always_enough : (s l : List ℕ) → Bytes s → IsAccepted s → 2048 ≤ length l → (preview_file s l).preview ≡ Fits (size_of (decoded_net (decode s)))
unfolding preview_file
always_enough s l b a long =
    let t : Past13 Plain s = past_13 Plain s a in
    let M = rewritten t.net in
    let same : length (bytes s) ≡ length (source_bytes M) = ap (λ (d : Decoded). length (source_bytes (rewritten (decoded_net d)))) t.file.reads in
    let few : length (bytes s) ≤ length l = omega (arith, length-source-bytes M, count_below-le (λ v. not (eqb (kind_of (element_at M v)) 2)) (size M), (netlists_alike Plain s b t).new.fields.bounds.nodes) in
    ap₂ (λ (v w : Verdict). preview_by (onward v w) (size_of (decoded_net (decode s)))) a (out_long (bytes s) l few)
