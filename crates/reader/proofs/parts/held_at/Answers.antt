-- Where the number and the table stand in the file, by the code.
use mathlib.Core.Path.{refl, sym, ap, ◌∙◌}
use Prim.Native.Nat.{◌+◌}
use native.Mathlib.Omega.{arith}
use Rattle.words.specs.declared.Op.TheVariants.{Constant, Part}
use Rattle.circuit.specs.Code.{number_or, table_or}
use Rattle.reader.proofs.InFile as file
use Rattle.reader.proofs.parts.held_at.Goals as goal

pub word_at-requires : goal.word_at-requires
word_at-requires c =
    let s = c.args.file.now in
    let at = c.args.at in
    let p = c.requires in
    let e = file.kind_by s at p.node 2 (omega arith) (sym c.in-2.is ∙ p.code) in
    omega (arith, p.node.inside, file.register_long s at p.node 2 e refl)

pub bounds-file-at : goal.bounds-file-at
bounds-file-at c =
    let s = c.args.file.now in
    let at = c.args.at in
    let p = c.requires in
    let e = file.kind_by s at p.node 3 (omega arith) (sym c.in-3.is ∙ p.code) in
    omega (arith, p.node.inside, file.async_long s at p.node 3 e refl)

pub word_at-requires-in-4 : goal.word_at-requires-in-4
word_at-requires-in-4 c =
    let s = c.args.file.now in
    let at = c.args.at in
    let p = c.requires in
    let e = file.kind_by s at p.node 4 (omega arith) (sym c.in-4.is ∙ p.code) in
    omega (arith, p.node.inside, file.clocked_long s at p.node 4 e refl)

pub bounds-file-at-in-4 : goal.bounds-file-at-in-4
bounds-file-at-in-4 c =
    let s = c.args.file.now in
    let at = c.args.at in
    let p = c.requires in
    let e = file.kind_by s at p.node 4 (omega arith) (sym c.in-4.is ∙ p.code) in
    omega (arith, p.node.inside, file.clocked_long s at p.node 4 e refl)

pub word_at-requires-in-8 : goal.word_at-requires-in-8
word_at-requires-in-8 c =
    let s = c.args.file.now in
    let at = c.args.at in
    let p = c.requires in
    let e = file.gate_by s at p.node 0 (sym c.in-8.is ∙ p.code) in
    omega (arith, p.node.inside, file.constant_long s at p.node e.0 e.1)

pub bounds-file-at-in-18 : goal.bounds-file-at-in-18
bounds-file-at-in-18 c =
    let s = c.args.file.now in
    let at = c.args.at in
    let p = c.requires in
    let e = file.gate_by s at p.node 10 (sym c.in-18.is ∙ p.code) in
    omega (arith, p.node.inside, file.part_long s at p.node e.0 e.1)

pub returns-in-2 : goal.returns-in-2
returns-in-2 c =
    let s = c.args.file.now in
    let at = c.args.at in
    let p = c.requires in
    let e = file.kind_by s at p.node 2 (omega arith) (sym c.in-2.is ∙ p.code) in
    let x = file.register_at s at p.node e _ c.word_at.ensures in
    (ap (number_or 0) x, ap (table_or 0) x, omega arith, λ q. absurd (omega (arith, q, p.code, c.in-2.is)))

pub returns-in-3 : goal.returns-in-3
returns-in-3 c =
    let s = c.args.file.now in
    let at = c.args.at in
    let p = c.requires in
    let e = file.kind_by s at p.node 3 (omega arith) (sym c.in-3.is ∙ p.code) in
    let x = file.async_at s at p.node e in
    (ap (number_or 0) x, ap (table_or 0) x, omega (arith, c.type_inv.file (c.args.at + 7)), λ q. absurd (omega (arith, q, p.code, c.in-3.is)))

pub returns-in-4 : goal.returns-in-4
returns-in-4 c =
    let s = c.args.file.now in
    let at = c.args.at in
    let p = c.requires in
    let e = file.kind_by s at p.node 4 (omega arith) (sym c.in-4.is ∙ p.code) in
    let x = file.clocked_at s at p.node e _ c.word_at-in-4.ensures in
    (ap (number_or 0) x, ap (table_or 0) x, omega (arith, c.type_inv.file (c.args.at + 7)), λ q. absurd (omega (arith, q, p.code, c.in-4.is)))

pub returns-in-8 : goal.returns-in-8
returns-in-8 c =
    let s = c.args.file.now in
    let at = c.args.at in
    let p = c.requires in
    let e = file.gate_by s at p.node 0 (sym c.in-8.is ∙ p.code) in
    let x = file.gate_at s at p.node e.0 (Constant _) (file.constant_at s at p.node e.0 e.1 _ c.word_at-in-8.ensures) in
    (ap (number_or 0) x, ap (table_or 0) x, omega arith, λ q. absurd (omega (arith, q, p.code, c.in-8.is)))

pub returns-in-18 : goal.returns-in-18
returns-in-18 c =
    let s = c.args.file.now in
    let at = c.args.at in
    let p = c.requires in
    let e = file.gate_by s at p.node 10 (sym c.in-18.is ∙ p.code) in
    let x = file.gate_at s at p.node e.0 (Part _) (file.part_at s at p.node e.0 e.1) in
    (ap (number_or 0) x, ap (table_or 0) x, omega arith, λ q. omega (arith, c.type_inv.file (c.args.at + 8)))
