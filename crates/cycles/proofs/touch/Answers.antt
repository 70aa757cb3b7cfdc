-- By the laws of a try at one node.
use mathlib.Core.Path.{sym, ◌∙◌}
use Prim.Native.Nat.{◌≤◌}
use native.Mathlib.Omega.{arith}
use lib.ListN.{get_or}
use Rattle.order.specs.Order.{class_of}
use Rattle.cycles.specs.Spread.{reached_once}
use Rattle.cycles.proofs.Touches.{reached_few}
use Rattle.cycles.proofs.touch.Goals as goal

pub overflow_add-result : goal.overflow_add-result
overflow_add-result c =
    let a = c.args in
    omega (arith, reached_few (class_of a.steps) a.net.now.net c.requires.reached, c.bounds.ensures.nodes)

pub returns-then-is_touched : goal.returns-then-is_touched
returns-then-is_touched c =
    let a = c.args in
    let off : get_or a.marks.now a.u 0 ≤ 0 = omega (arith, c.if-at_or-gt0.false, c.at_or.ensures) in
    let hit = sym c.is_touched.ensures ∙ c.if-is_touched.true in
    reached_once (class_of a.steps) a.net.now.net c.requires.sourced c.requires.reached c.requires.node off hit c.put.ensures
