-- The loop's invariant: from v back to u all is traced.
use mathlib.Core.Path.{refl, ◌∙◌}
use native.Mathlib.Omega.{arith}
use Rattle.wires.specs.TracedLaws.{setting_more, setting_done, traced_at, back_at}
use Rattle.wires.proofs.set_back.Goals as goal

pub overflow_sub-left : goal.overflow_sub-left
overflow_sub-left c =
    let t = c.loop-timing.invariant.0 in
    let b = back_at _ _ t.half t.inside c.bounds.ensures.nodes c.requires.sourced c.requires.ringless c.loop-timing-test.true c.source-u.ensures.source in
    omega (arith, t.its_passes, b.more)

pub loop-timing-smaller : goal.loop-timing-smaller
loop-timing-smaller c = omega (arith, overflow_sub-left c)

pub loop-timing-preserved : goal.loop-timing-preserved
loop-timing-preserved c =
    let l = c.loop-timing in
    let t = l.invariant.0 in
    let b = back_at _ _ t.half t.inside c.bounds.ensures.nodes c.requires.sourced c.requires.ringless c.loop-timing-test.true c.source-u.ensures.source in
    let w = c.put_wire in
    (setting_more _ t w.ensures.written b refl, w.ensures.leads ∙ l.invariant.1)

pub returns-clause-more : goal.returns-clause-more
returns-clause-more c =
    let t = c.loop-timing.invariant.0 in
    setting_done _ t (traced_at _ _ t.half t.inside c.bounds.ensures.nodes c.loop-timing-test.false)
