-- By its clock, a constant or a gate.
use Rattle.std.proofs.Common.{refl, arith}
use Rattle.plan.specs.Areas.{owners_in, late_in, sources_in}
use Rattle.layout.specs.NewRow.{row_as}
use Rattle.layout.specs.PlannedNode.{owner_read, late-read, constant_as, gate_as}
use Rattle.layout.proofs.added.shown_row.Goals as goal

pub width-width-requires : goal.width-width-requires
width-width-requires c = let a = c.args in omega (arith, owner_read a.from.now.plan.now a.i c.requires.node, c.requires.owner)

pub returns-then-from-i-lt-NEVER : goal.returns-then-from-i-lt-NEVER
returns-then-from-i-lt-NEVER c =
    let a = c.args in
    let h = c.requires.node in
    row_as c.constant_row.ensures
    (constant_as a.from.now.net.now.net (owners_in a.from.now.plan.now) a.from.now.words.now (late_in a.from.now.plan.now) (sources_in a.from.now.plan.now) a.i
    (owner_read a.from.now.plan.now a.i h) c.width-width.ensures.width (late-read a.from.now.plan.now a.i h) refl c.if-from-i-lt-NEVER.true)

pub returns : goal.returns
returns c =
    let a = c.args in
    let h = c.requires.node in
    row_as c.choose_row.ensures
    (gate_as a.from.now.net.now.net (owners_in a.from.now.plan.now) a.from.now.words.now (late_in a.from.now.plan.now) (sources_in a.from.now.plan.now) a.i
    (owner_read a.from.now.plan.now a.i h) c.width-width.ensures.width (late-read a.from.now.plan.now a.i h)
    c.read_by-steer.ensures c.read_by-later.ensures c.read_by-first.ensures (omega (arith, c.if-from-i-lt-NEVER.false)))
