use mathlib.Core.Path.{sym}
use Prim.Native.Nat.{ℕ, ◌≤◌, ◌<◌}
use native.Mathlib.Omega.{arith}
use Rattle.schedule.specs.Lines.{InnerLine}
use Rattle.stepping.specs.StepLaws.{line_fits, stepped_more}
use Rattle.stepping.proofs.run_of.Goals as goal

pub line_word-requires-clause-line : goal.line_word-requires-clause-line
line_word-requires-clause-line g c =
    let p = c.requires.run in
    let t = c.loop-i.invariant in
    record { room = p.room; few = omega (arith, p.few, c.loop-i-test.true); space = omega (arith, p.space, t.1.kept); inner = (p.lines c.loop-i.i t.0 c.loop-i-test.true).0; fit = t.1.fit }

pub line_word-requires-clause-code : goal.line_word-requires-clause-code
line_word-requires-clause-code g c = sym (c.requires.run.lines c.loop-i.i c.loop-i.invariant.0 c.loop-i-test.true).1

pub loop-i-preserved : goal.loop-i-preserved
loop-i-preserved g c =
    let a = c.args in
    let p = c.requires.run in
    let t = c.loop-i in
    let e = c.line_word.ensures in
    let y = c.loop-i-test.true in
    let before : (j : ℕ) → a.from ≤ j → j < t.i → InnerLine a.net.now.net a.schedule.now j = λ j k l. (p.lines j k (omega (arith, y))).0 in
    let own = (p.lines t.i t.invariant.0 y).0 in (
      omega (arith, t.invariant.0),
      stepped_more t.invariant.1 before t.invariant.0 own (omega (arith, p.few, p.space, t.invariant.1.kept, y)) e (rw e (line_fits own t.words t.invariant.1.fit c.requires.formed)),
    )
