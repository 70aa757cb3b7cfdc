-- The tests of `element_read`, then the kind.
use Rattle.netlist.specs.declared.Element.{Element}
use Rattle.std.specs.Prelude.{Option}
use mathlib.Core.Path.{refl, ap, ◌∙◌}
use Rattle.lists.proofs.Paths.{on_lt, off_lt, on_eq, off_eq}
use Rattle.netlist.specs.NodeField.{element_read, node_with, node_read}
use Rattle.nodes.proofs.good.content_good.Goals as goal

pub returns-then-s-lt2 : goal.returns-then-s-lt2
unfolding node_read element_read
returns-then-s-lt2 c =
    let s = c.args.s.now in
    ap (λ (r : Option Element). (node_with s r).good) (on_lt _ _ _ _ c.if-s-lt2.true refl)

pub returns-then-width-eq0 : goal.returns-then-width-eq0
unfolding node_read element_read
returns-then-width-eq0 c =
    let s = c.args.s.now in
    ap (λ (r : Option Element). (node_with s r).good) (off_lt _ _ _ _ c.if-s-lt2.false (on_eq _ _ _ _ c.if-width-eq0.true refl))

pub returns-then-width-gt16 : goal.returns-then-width-gt16
unfolding node_read element_read
returns-then-width-gt16 c =
    let s = c.args.s.now in
    ap (λ (r : Option Element). (node_with s r).good) (off_lt _ _ _ _ c.if-s-lt2.false (off_eq _ _ _ _ c.if-width-eq0.false (on_lt _ _ _ _ c.if-width-gt16.true refl)))

pub returns : goal.returns
unfolding node_read element_read
returns c =
    let s = c.args.s.now in
    c.kind_good.ensures
    ∙ ap (λ (r : Option Element). (node_with s r).good) (off_lt _ _ _ _ c.if-s-lt2.false (off_eq _ _ _ _ c.if-width-eq0.false (off_lt _ _ _ _ c.if-width-gt16.false refl)))
