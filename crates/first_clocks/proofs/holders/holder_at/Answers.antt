-- Where the wire has no more registers than there are clocks its root is the holder; else the row of registers is walked.
use mathlib.Core.Path.{◌≡◌, refl, sym, subst, ◌∙◌}
use Prim.Native.Nat.{ℕ, ◌+◌, ◌≤◌}
use lib.ListN.{get_or}
use native.Mathlib.Omega.{arith}
use Rattle.retiming.specs.Rewrite.{passed, root}
use Rattle.wires.specs.TracedLaws.{root_at, pass_at}
use Rattle.first_clocks.specs.Holders.{Holder, holder_root}
use Rattle.first_clocks.proofs.holders.holder_at.Goals as goal

pub returns-then-through-clock-clause-holder : goal.returns-then-through-clock-clause-holder
returns-then-through-clock-clause-holder c =
    let v = c.args.v in
    let N = c.args.net.now.net in
    let t = c.requires.traced v c.requires.node in
    let few = c.bounds.ensures.nodes in
    let through : ℕ = get_or c.args.timing.now (2048 + v) 0 in
    let from : ℕ = get_or c.args.timing.now (1024 + v) 0 in
    let e : passed N v ≡ through = sym (pass_at c.args.timing.now v c.requires.node few refl ∙ t.through) in
    let f : root N v ≡ from = sym (root_at c.args.timing.now v c.requires.node few refl ∙ t.from) in
    subst (Holder N v through) f (subst (λ (b : ℕ). Holder N v b (root N v)) e (holder_root N c.requires.formed v c.requires.node))

pub walk_back-requires-clause-holder : goal.walk_back-requires-clause-holder
walk_back-requires-clause-holder c =
    let N = c.args.net.now.net in
    let n = c.nearest in
    subst (λ (v : ℕ). Holder N v n.result.back n.result.holder) (sym n.ensures.node) (n.ensures.holder N c.requires.node c.requires.last)

pub walk_back-requires-clause-passed : goal.walk_back-requires-clause-passed
walk_back-requires-clause-passed c =
    let v = c.args.v in
    let N = c.args.net.now.net in
    let e = pass_at c.args.timing.now v c.requires.node c.bounds.ensures.nodes refl in
    let far : c.args.clock ≤ passed N v = omega (arith, e, (c.requires.traced v c.requires.node).through, c.if-through-clock.false) in
    subst (λ (u : ℕ). c.args.clock ≤ passed N u) (sym c.nearest.ensures.node) far
