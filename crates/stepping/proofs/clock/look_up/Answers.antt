use mathlib.Core.Path.{refl, sym, ◌∙◌}
use Prim.Native.Nat.{◌<◌}
use native.Mathlib.Omega.{arith}
use Rattle.stepping.specs.NextLaws.{few_held}
use Rattle.stepping.specs.Looking.{looked_run, looked_more, look_asks}
use Rattle.stepping.proofs.clock.look_up.Goals as goal

pub loop-i-preserved-then-part_of-eq-REGISTER : goal.loop-i-preserved-then-part_of-eq-REGISTER
loop-i-preserved-then-part_of-eq-REGISTER c =
    let z = c.args.sizes in
    let p = c.requires in
    let t = c.loop-i in
    let low : t.i < z.lines = omega (arith, p.scheduled.front, c.loop-i-test.true) in
    let r = p.scheduled.runs t.i low in (
      omega (arith, t.invariant.0, r.0.some, c.part_of-i.ensures.part),
      omega (arith, r.1, p.scheduled.few, c.part_of-i.ensures.part),
      looked_run z t.invariant.2 p.scheduled p.fit p.words p.read low (sym c.part_of.ensures.part ∙ c.if-part_of-eq-REGISTER.true) c.part_of-i.ensures.part,
    )

pub bounds-words-at : goal.bounds-words-at
bounds-words-at c =
    let p = c.requires in
    omega (arith, p.words, few_held p.scheduled p.formed.fields.bounds.nodes, c.loop-i.invariant.2.kept, c.loop-i.invariant.0, c.loop-i-test.true)

pub table_word-requires-clause-table : goal.table_word-requires-clause-table
table_word-requires-clause-table c =
    let p = c.requires in
    let t = c.loop-i in
    (look_asks c.args.sizes t.invariant.2 p.scheduled p.fit p.words p.read t.invariant.0 c.loop-i-test.true c.part_of.ensures.part c.if-part_of-eq-REGISTER.false c.part_of-else-part_of-eq-REGISTER.ensures.part refl refl p.formed).0

pub table_word-requires-clause-address : goal.table_word-requires-clause-address
table_word-requires-clause-address c =
    let p = c.requires in
    let t = c.loop-i in
    (look_asks c.args.sizes t.invariant.2 p.scheduled p.fit p.words p.read t.invariant.0 c.loop-i-test.true c.part_of.ensures.part c.if-part_of-eq-REGISTER.false c.part_of-else-part_of-eq-REGISTER.ensures.part refl refl p.formed).1

pub bounds-words-at-else-part_of-eq-REGISTER : goal.bounds-words-at-else-part_of-eq-REGISTER
bounds-words-at-else-part_of-eq-REGISTER c =
    let p = c.requires in
    omega (arith, p.words, few_held p.scheduled p.formed.fields.bounds.nodes, c.loop-i.invariant.2.kept, c.loop-i.invariant.0, c.loop-i-test.true)

pub loop-i-preserved : goal.loop-i-preserved
loop-i-preserved c =
    let p = c.requires in
    let t = c.loop-i in (
      omega (arith, t.invariant.0),
      omega (arith, p.scheduled.front, p.scheduled.few, c.loop-i-test.true),
      looked_more c.args.sizes t.invariant.2 p.scheduled p.fit p.words p.read t.invariant.0 c.loop-i-test.true c.part_of.ensures.part c.if-part_of-eq-REGISTER.false
          c.part_of-else-part_of-eq-REGISTER.ensures.part refl refl p.formed c.table_word.ensures (few_held p.scheduled p.formed.fields.bounds.nodes),
    )
