-- The length, then the word.
use Rattle.netlist.specs.declared.Element.{Element}
use Rattle.std.specs.Prelude.{Option}
use mathlib.Core.Path.{refl, ap, ◌∙◌}
use Prim.Native.Nat.{ℕ}
use lib.ListN.{get_or}
use Rattle.lists.proofs.Paths.{on_eq, off_eq}
use Rattle.words.specs.Words.{fits}
use Rattle.netlist.specs.NodeField.{node_with}
use Rattle.nodes.specs.Good.{found}
use Rattle.nodes.proofs.good.reset_good.Goals as goal

pub returns-then-s-size : goal.returns-then-s-size
returns-then-s-size c e =
    let s = c.args.s.now in
    c.fits_width.ensures ∙ ap (λ (v : ℕ). fits v (get_or s 1 0)) c.word_at.ensures ∙ found s e _
    ∙ ap (λ (r : Option Element). (node_with s r).good) (on_eq _ _ _ _ c.if-s-size.true refl)

pub returns-else-s-size : goal.returns-else-s-size
returns-else-s-size c e =
    let s = c.args.s.now in
    ap (λ (r : Option Element). (node_with s r).good) (off_eq _ _ _ _ c.if-s-size.false refl)
