-- The words of the row tell the node.
use Rattle.circuit.proofs.RowLaws.{node_read_lem}
use Rattle.circuit.proofs.rows.node_of.Goals as goal

pub returns : goal.returns
returns c = node_read_lem _ _ c.requires.circuit c.args.v c.requires.node c.element_of.ensures c.width_of.ensures.width c.source_of-first.ensures.source c.source_of-second.ensures.source c.source_of-third.ensures.source
