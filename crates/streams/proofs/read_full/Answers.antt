-- What is read next stands in the room behind what was read before.
use Rattle.std.proofs.Common.{◌≡◌, ℕ, ◌+◌, ◌≤◌, List, ◌++◌, rules, arith, length, take, drop, sym, ap, ◌∙◌, subst, le_refl, drop_at, length-take-le}
use Rattle.std.proofs.lemmas.Slice.{take-put_mid_below}
use Rattle.std.specs.Io.KnownBytes.{Consumes}
use Rattle.std.proofs.KnownBytes.{Consumes-trans}
use borrow.Rule.Slice.PartMut.{put_mid, post_of}
use lib.Seq.{take-add, take-append-le}
use Rattle.streams.proofs.read_full.Goals as goal

-- the front of the room with n bytes of a part that was put at a
take-put_mid : (a k n : ℕ) (xs ys : List ℕ) → a ≤ length xs → n ≤ length ys → take a xs ++ take n ys ≡ take (a + n) (put_mid a k xs ys)
take-put_mid a k n xs ys within fits =
    let new = put_mid a k xs ys in
    let part : take n (drop a new) ≡ take n ys = ap (take n) (drop_at (take a xs) (ys ++ post_of a k xs) a (length-take-le a xs within)) ∙ take-append-le n ys (post_of a k xs) fits in
    ap (λ l. l ++ take n ys) (sym (take-put_mid_below a k xs ys a (le_refl a) within)) ∙ ap (λ l. take a new ++ l) (sym part) ∙ sym (take-add a n new)

pub loop-n-preserved : goal.loop-n-preserved
loop-n-preserved g c = record {
  inside = search rules;
  lost = subst (Consumes _ _) (take-put_mid _ _ _ _ _ c.loop-n.invariant.inside (omega (arith, c.in_ok-got.ensures.bound.0))) (Consumes-trans _ _ _ _ _ c.loop-n.invariant.lost c.in_ok-got.ensures.bytes.0);
}
