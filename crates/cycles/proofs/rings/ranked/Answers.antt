use native.Mathlib.Omega.{arith}
use lib.ListN.{get_or}
use Rattle.cycles.specs.Falls.{falls_all}
use Rattle.cycles.proofs.rings.ranked.Goals as goal

pub returns : goal.returns
returns c =
    let a = c.args in
    λ e. falls_all a.net.now.net (λ u. get_or a.ranks.now u 0) (omega (arith, c.loop-v-test.false, c.node_count-n.ensures.count)) c.loop-v.invariant
