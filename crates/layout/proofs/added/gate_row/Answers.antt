-- The constant, a register of the chain, or what shows old words.
use native.Mathlib.Omega.{arith}
use Rattle.layout.specs.NewRow.{row_as}
use Rattle.layout.specs.PlannedNode.{node_by}
use Rattle.layout.proofs.added.gate_row.Goals as goal

pub returns-then-behind-eq0 : goal.returns-then-behind-eq0
returns-then-behind-eq0 c = let p = c.requires in row_as c.constant_row.ensures ((node_by p.planned c.args.i p.node).one (omega (arith, c.if-behind-eq0.true, p.behind)))

pub returns-then-behind-from : goal.returns-then-behind-from
returns-then-behind-from c =
    let p = c.requires in
    row_as c.register_row.ensures ((node_by p.planned c.args.i p.node).link (omega (arith, c.if-behind-eq0.false, p.behind)) (omega (arith, c.if-behind-from.true)))

pub returns : goal.returns
returns c = let p = c.requires in row_as c.shown_row.ensures ((node_by p.planned c.args.i p.node).shown (omega (arith, c.if-behind-from.false)))
