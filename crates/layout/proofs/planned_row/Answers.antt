-- An entry, a register, or what a late start adds.
use Rattle.std.proofs.Common.{refl, ◌∙◌, arith}
use Rattle.plan.specs.Areas.{owners_in, late_in, sources_in}
use Rattle.layout.specs.NewRow.{row_as}
use Rattle.layout.specs.PlannedNode.{owner_read, node_by, entry_as, register_as}
use Rattle.layout.proofs.planned_row.Goals as goal

pub source_count-n-requires : goal.source_count-n-requires
source_count-n-requires c =
    let a = c.args in
    let p = c.requires in
    omega (arith, owner_read a.from.now.plan.now a.i (omega arith), p.planned.inside a.i p.node (λ l. absurd (omega (arith, p.planned.first, c.if-i-from.true))))

pub entry_row-requires : goal.entry_row-requires
entry_row-requires c =
    let a = c.args in
    let p = c.requires in
    omega (arith, owner_read a.from.now.plan.now a.i (omega arith), p.planned.inside a.i p.node (λ l. absurd (omega (arith, p.planned.first, c.if-i-from.true))))

pub returns-then-i-from : goal.returns-then-i-from
returns-then-i-from c =
    let a = c.args in
    let p = c.requires in
    row_as c.entry_row.ensures
    (entry_as a.from.now.net.now.net (owners_in a.from.now.plan.now) a.from.now.words.now (late_in a.from.now.plan.now) (sources_in a.from.now.plan.now) a.i
    (owner_read a.from.now.plan.now a.i (omega arith)) refl c.source_count-n.ensures.count
    c.read_by-first.ensures c.read_by-second.ensures c.read_by-third.ensures
    ∙ (node_by p.planned a.i p.node).entry c.if-i-from.true)

pub width-width-requires : goal.width-width-requires
width-width-requires c =
    let a = c.args in
    let p = c.requires in
    omega (arith, owner_read a.from.now.plan.now a.i (omega arith), p.planned.inside a.i p.node (λ l. absurd (omega (arith, c.if-i-from-2.true))))

pub returns-then-i-from-2 : goal.returns-then-i-from-2
returns-then-i-from-2 c =
    let a = c.args in
    let p = c.requires in
    row_as c.register_row.ensures
    (register_as a.from.now.net.now.net (owners_in a.from.now.plan.now) a.from.now.words.now (late_in a.from.now.plan.now) (sources_in a.from.now.plan.now) a.i
    (owner_read a.from.now.plan.now a.i (omega arith)) c.width-width.ensures.width refl c.read_by.ensures
    ∙ (node_by p.planned a.i p.node).register c.if-i-from.false c.if-i-from-2.true)
