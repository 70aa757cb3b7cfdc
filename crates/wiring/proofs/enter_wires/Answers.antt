-- The loop's invariant: the wires to the first nodes are entered.
use mathlib.Core.Path.{◌≡◌, ◌∙◌}
use Prim.Native.Nat.{ℕ, ◌+◌, ◌*◌}
use native.Mathlib.Omega.{arith}
use Rattle.wiring.specs.WiringLaws.{wired_at}
use Rattle.wiring.proofs.enter_wires.Goals as goal

pub loop-x-preserved : goal.loop-x-preserved
loop-x-preserved c =
    let x : ℕ = c.loop-x.x in
    let w = c.enter_node.ensures in
    (wired_at (let e : 3 * x + 3 ≡ 3 * (x + 1) = omega arith in e) w.entered, w.heads ∙ c.loop-x.invariant.1)

pub returns-clause-entered : goal.returns-clause-entered
returns-clause-entered c = wired_at (omega (arith, c.loop-x-test.false)) c.loop-x.invariant.0
