-- The first tables are entered.
use Rattle.std.proofs.Common.{◌+◌, ◌∙◌, sym, arith, length-set}
use Rattle.circuit.proofs.CircuitLaws.{table_place}
use Rattle.circuit.proofs.Heading.{heading_more, heading_done}
use Rattle.circuit.proofs.copy_head.Goals as goal

pub loop-t-preserved : goal.loop-t-preserved
loop-t-preserved c = (length-set c.loop-t.new (2 + c.loop-t.t) _ ∙ c.loop-t.invariant.0, heading_more c.loop-t.invariant.1 (omega (arith, c.loop-t-test.true, c.table_count-n.ensures.few)) (sym (table_place c.args.net.now c.loop-t.t (omega (arith, c.loop-t-test.true, c.table_count-n.ensures.places)))))

pub returns : goal.returns
returns c = heading_done c.loop-t.invariant.1 c.requires.circuit.formed.few_tables (omega (arith, c.loop-t-test.false, c.table_count-n.ensures.places))
