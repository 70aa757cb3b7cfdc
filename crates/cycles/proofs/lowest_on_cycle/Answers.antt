use mathlib.Core.Path.{◌∙◌}
use Prim.Native.Nat.{◌≤◌, ◌<◌}
use native.Mathlib.Omega.{arith}
use lib.ListN.{get_or}
use Rattle.lists.proofs.SearchLaws.{passed-more, lowest_here, lowest_past}
use Rattle.netlist.specs.Net.{size}
use Rattle.netlist.specs.Reach.{reaches_itself}
use Rattle.order.specs.Order.{class_of}
use Rattle.cycles.specs.Spread.{reached_none, start_hit}
use Rattle.cycles.proofs.Touches.{reached_few, round_missed}
use Rattle.cycles.proofs.lowest_on_cycle.Goals as goal

pub loop-steps-init : goal.loop-steps-init
loop-steps-init c = let a = c.args in (c.search.invariant.0, reached_none (class_of a.steps) a.net.now.net c.search.s 1024 c.bounds.ensures.nodes)

pub loop-steps-smaller : goal.loop-steps-smaller
loop-steps-smaller c = let a = c.args in let w = c.spread-more.ensures in omega (arith, c.spread_by-near.ensures.start, w.grows, c.if-more-near.false, reached_few (class_of a.steps) a.net.now.net w.holds)

pub search-preserved : goal.search-preserved
search-preserved c = let a = c.args in let N = a.net.now.net in let K = class_of a.steps in let k = c.search in let w = c.spread-more in let n = c.node_count-n.ensures.count in let missed : get_or w.new.marks k.s 0 ≤ 0 = omega (arith, c.if-at_or-gt0.false, c.at_or.ensures) in (c.loop-steps.invariant.0, passed-more (reaches_itself K N) k.s k.invariant.1 (round_missed K N c.requires.sourced w.ensures c.if-more-near.true (omega (arith, c.search-test.true, n)) missed))

pub returns-after-search : goal.returns-after-search
returns-after-search c = let a = c.args in let N = a.net.now.net in let k = c.search in let n = c.node_count-n.ensures.count in k.invariant.0 ∙ n ∙ lowest_past (size N) (reaches_itself (class_of a.steps) N) (λ u h. k.invariant.1 u (omega (arith, h, n, c.search-test.false)))

pub returns-then-at_or-gt0 : goal.returns-then-at_or-gt0
returns-then-at_or-gt0 c = let a = c.args in let N = a.net.now.net in let K = class_of a.steps in let k = c.search in let l : k.s < size N = omega (arith, c.search-test.true, c.node_count-n.ensures.count) in let hit : 0 < get_or c.spread-more.new.marks k.s 0 = omega (arith, c.if-at_or-gt0.true, c.at_or.ensures) in lowest_here (size N) (reaches_itself K N) k.s k.invariant.1 l (start_hit K N c.requires.sourced c.spread-more.ensures.holds l hit)
