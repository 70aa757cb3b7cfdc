use mathlib.Core.Path.{◌∙◌}
use native.Mathlib.Omega.{arith}
use Rattle.netlist.proofs.TableWords.{two_tags, word_stands}
use Rattle.circuit.proofs.tables.word_in.Goals as goal

pub overflow_mul-a : goal.overflow_mul-a
overflow_mul-a c =
    let a = c.args in
    omega (arith, (word_stands a.file.now a.at c.requires.stands a.a c.requires.address c.if-file-at-eq2.true).inside, c.requires.short)

pub overflow_add-at-then-file-at-eq2 : goal.overflow_add-at-then-file-at-eq2
overflow_add-at-then-file-at-eq2 c =
    let a = c.args in
    omega (arith, (word_stands a.file.now a.at c.requires.stands a.a c.requires.address c.if-file-at-eq2.true).inside, c.requires.short)

pub word_at-requires : goal.word_at-requires
word_at-requires c =
    let a = c.args in
    omega (arith, (word_stands a.file.now a.at c.requires.stands a.a c.requires.address c.if-file-at-eq2.true).inside, c.requires.short)

pub filled_place-requires-clause-short : goal.filled_place-requires-clause-short
filled_place-requires-clause-short c =
    let a = c.args in
    c.requires.short

pub filled_place-requires-clause-stands : goal.filled_place-requires-clause-stands
filled_place-requires-clause-stands c =
    let a = c.args in
    c.requires.stands

pub filled_place-requires-clause-address : goal.filled_place-requires-clause-address
filled_place-requires-clause-address c =
    let a = c.args in
    c.requires.address

pub filled_place-requires-clause-tag : goal.filled_place-requires-clause-tag
filled_place-requires-clause-tag c =
    let a = c.args in
    two_tags a.file.now a.at c.requires.stands c.if-file-at-eq2.false

pub returns-then-file-at-eq2 : goal.returns-then-file-at-eq2
returns-then-file-at-eq2 c =
    let a = c.args in
    c.word_at.ensures ∙ (word_stands a.file.now a.at c.requires.stands a.a c.requires.address c.if-file-at-eq2.true).is
