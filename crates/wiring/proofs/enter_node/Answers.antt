-- The loop's invariant: the wires to the first p operands are entered. After it there are none up to the next node.
use mathlib.Core.Path.{◌≡◌, refl, subst, ◌∙◌}
use Prim.Native.Nat.{ℕ, ◌+◌, ◌*◌, ◌/◌, ◌%◌, ◌≤◌}
use native.Mathlib.Omega.{arith}
use Rattle.retiming.specs.Rewrite.{Timing}
use Rattle.retiming.specs.Modes.{mode_timing}
use Rattle.wiring.specs.Wiring.{wire_count}
use Rattle.wiring.specs.WiringLaws.{wired_gap, wired_at, wire_missing}
use Rattle.wiring.proofs.enter_node.Goals as goal

pub loop-p-init : goal.loop-p-init
loop-p-init c =
    let x : ℕ = c.args.x in
    (wired_at (let e : 3 * x ≡ 3 * x + 0 = omega arith in e) c.requires.entered, refl)

pub loop-p-preserved : goal.loop-p-preserved
loop-p-preserved c =
    let x : ℕ = c.args.x in
    let p : ℕ = c.loop-p.p in
    let w = c.enter_wire.ensures in
    (wired_at (let e : 3 * x + p + 1 ≡ 3 * x + (p + 1) = omega arith in e) w.entered, w.heads ∙ c.loop-p.invariant.1)

pub returns-clause-entered : goal.returns-clause-entered
returns-clause-entered c =
    let a = c.args in
    let N = a.net.now.net in
    let w = c.wires_to-p-end.ensures in
    let f : Timing = mode_timing a.mode N in
    wired_gap c.loop-p.invariant.0 (3 * a.x + 3) (omega (arith, w.few)) (omega (arith, c.requires.reader, c.bounds.ensures.nodes))
    (λ j l m. wire_missing N f j (subst (λ (y : ℕ). wire_count N f y ≤ j % 3) (let e : a.x ≡ j / 3 = omega arith in e) (omega (arith, w.count, c.loop-p-test.false))))
