use mathlib.Core.Path.{◌≡◌}
use native.Mathlib.Omega.{arith}
use Rattle.netlist.specs.Field.{length_at}
use Rattle.netlist.proofs.TableWords.{filled_long, stored_stands, fill_stands}
use Rattle.circuit.proofs.tables.filled_place.Goals as goal

pub overflow_sub-stored : goal.overflow_sub-stored
overflow_sub-stored c =
    let a = c.args in
    omega (arith, c.word_at.ensures, filled_long a.file.now a.at c.requires.stands c.requires.tag)

pub returns-then-stored-a-clause-word : goal.returns-then-stored-a-clause-word
returns-then-stored-a-clause-word c =
    let a = c.args in
    let e : c.word_at.result ≡ length_at a.file.now a.at = c.word_at.ensures in
    let t = fill_stands a.file.now a.at c.requires.stands a.a c.requires.address c.requires.tag (omega (arith, c.if-stored-a.true)) in
    t.is

pub returns-then-stored-a-clause-inside : goal.returns-then-stored-a-clause-inside
returns-then-stored-a-clause-inside c =
    let a = c.args in
    let e : c.word_at.result ≡ length_at a.file.now a.at = c.word_at.ensures in
    let t = fill_stands a.file.now a.at c.requires.stands a.a c.requires.address c.requires.tag (omega (arith, c.if-stored-a.true)) in
    omega (arith, t.inside)

pub returns-else-stored-a-clause-word : goal.returns-else-stored-a-clause-word
returns-else-stored-a-clause-word c =
    let a = c.args in
    let e : c.word_at.result ≡ length_at a.file.now a.at = c.word_at.ensures in
    let t = stored_stands a.file.now a.at c.requires.stands a.a c.requires.address c.requires.tag (omega (arith, c.if-stored-a.false)) in
    t.is

pub returns-else-stored-a-clause-inside : goal.returns-else-stored-a-clause-inside
returns-else-stored-a-clause-inside c =
    let a = c.args in
    let e : c.word_at.result ≡ length_at a.file.now a.at = c.word_at.ensures in
    let t = stored_stands a.file.now a.at c.requires.stands a.a c.requires.address c.requires.tag (omega (arith, c.if-stored-a.false)) in
    omega (arith, t.inside)
