-- The part begins in the field's content where the stored words do.
use mathlib.Core.Path.{◌≡◌, sym, ap, ap₂, ◌∙◌}
use Prim.Native.Nat.{ℕ, ◌+◌, ◌-◌}
use native.Mathlib.Omega.{arith}
use lib.ListN.{take, drop}
use lib.Seq.{drop-drop}
use Rattle.lists.proofs.Parts.{drop-take}
use Rattle.netlist.specs.Field.{tag_at, length_at}
use Rattle.netlist.specs.TableField.{stored_from}
use Rattle.netlist.proofs.TableWords.{stored_inside}
use Rattle.reader.proofs.table_part.Goals as goal

pub slice_bounds-result-count : goal.slice_bounds-result-count
slice_bounds-result-count c = omega (arith, stored_inside _ _ c.requires, c.word_at.ensures, c.stored_from.ensures.from)

pub slice_bounds-result-start : goal.slice_bounds-result-start
slice_bounds-result-start c = omega (arith, stored_inside _ _ c.requires, c.word_at.ensures, c.stored_from.ensures.from)

pub returns : goal.returns
returns c =
    let s = c.args.file.now in
    let at = c.args.at in
    let f = stored_inside s at c.requires in
    let w : c.word_at.result ≡ length_at s at = c.word_at.ensures in
    let k : ℕ = stored_from (tag_at s at) in
    let e : c.stored_from.result ≡ k = c.stored_from.ensures.from in
    let n : at + 3 + c.word_at.result - (at + 3 + c.stored_from.result) ≡ length_at s at - k = omega arith in
    ap₂ (λ (m j : ℕ). take m (drop (at + 3 + j) s)) n e ∙ ap (take (length_at s at - k)) (sym (drop-drop k (at + 3) s)) ∙ sym (drop-take k (length_at s at) (drop (at + 3) s))
