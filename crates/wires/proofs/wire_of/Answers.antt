-- The loop's invariant: u comes as many registers back from v as are counted.
use mathlib.Core.Path.{refl, sym, ◌∙◌}
use native.Mathlib.Omega.{arith}
use Rattle.wires.specs.TracedLaws.{root_at, pass_at, passed_few, back_more, traced_at, back_at}
use Rattle.wires.proofs.wire_of.Goals as goal

pub overflow_add-count : goal.overflow_add-count
overflow_add-count c = omega (arith, c.loop-u.invariant.more, passed_few c.args.net.now.net c.args.v, c.bounds.ensures.nodes)

pub loop-u-preserved : goal.loop-u-preserved
loop-u-preserved c =
    let i = c.loop-u.invariant in
    back_more i (back_at _ _ c.requires.half i.inside c.bounds.ensures.nodes c.requires.sourced c.requires.ringless c.loop-u-test.true c.source-u.ensures.source)

pub loop-u-smaller : goal.loop-u-smaller
loop-u-smaller c = omega (arith, (loop-u-preserved c).more, c.loop-u.invariant.more)

pub returns-clause-through : goal.returns-clause-through
returns-clause-through c =
    let i = c.loop-u.invariant in
    let t = traced_at _ _ c.requires.half i.inside c.bounds.ensures.nodes c.loop-u-test.false in
    omega (arith, i.more, pass_at c.args.timing.now c.loop-u.u i.inside c.bounds.ensures.nodes refl, t.through)

pub overflow_add-through-2 : goal.overflow_add-through-2
overflow_add-through-2 c =
    let i = c.loop-u.invariant in
    let t = traced_at _ _ c.requires.half i.inside c.bounds.ensures.nodes c.loop-u-test.false in
    omega (arith, i.more, pass_at c.args.timing.now c.loop-u.u i.inside c.bounds.ensures.nodes refl, t.through, passed_few c.args.net.now.net c.args.v, c.bounds.ensures.nodes)

pub returns-clause-root : goal.returns-clause-root
returns-clause-root c =
    let i = c.loop-u.invariant in
    let t = traced_at _ _ c.requires.half i.inside c.bounds.ensures.nodes c.loop-u-test.false in
    root_at c.args.timing.now c.loop-u.u i.inside c.bounds.ensures.nodes refl ∙ t.from ∙ sym i.same_root
