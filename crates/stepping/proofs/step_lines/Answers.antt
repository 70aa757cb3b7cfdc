use Prim.Native.Nat.{ℕ, ◌+◌, ◌≤◌, ◌<◌}
use native.Mathlib.Omega.{arith}
use Rattle.schedule.specs.Lines.{InnerLine}
use Rattle.stepping.specs.StepLaws.{scheduled_run, stepped_then}
use Rattle.stepping.proofs.step_lines.Goals as goal

pub step_run-requires-clause-run : goal.step_run-requires-clause-run
step_run-requires-clause-run c =
    let t = c.loop-i in
    (scheduled_run t.words c.requires.scheduled t.invariant.0 c.loop-i-test.true c.part_of-end.ensures.part (omega (arith, c.requires.words, t.invariant.2.kept)) t.invariant.2.fit).2

pub loop-i-preserved : goal.loop-i-preserved
loop-i-preserved c =
    let z = c.args.sizes in
    let s = c.requires.scheduled in
    let t = c.loop-i in
    let y = c.loop-i-test.true in
    let r = scheduled_run t.words s t.invariant.0 y c.part_of-end.ensures.part (omega (arith, c.requires.words, t.invariant.2.kept)) t.invariant.2.fit in
    let before : (j : ℕ) → z.inputs + z.held ≤ j → j < t.i → InnerLine c.args.net.now.net c.args.schedule.now j = λ j k l. s.inner_lines j k (omega (arith, y)) in
    (omega (arith, r.0, t.invariant.0), r.1, stepped_then t.invariant.2 before t.invariant.0 c.step_run.ensures)
