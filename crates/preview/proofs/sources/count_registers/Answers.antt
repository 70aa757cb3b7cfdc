use Rattle.std.specs.Prelude.{◌<◌}
use Rattle.std.proofs.Common.{arith}
use Rattle.netlist.specs.Net.{size}
use Rattle.preview.specs.Counting.{counting_none, counting_more, counting_all, number_small}
use Rattle.preview.proofs.sources.count_registers.Goals as goal

pub loop-v-init : goal.loop-v-init
loop-v-init c = counting_none _ _ c.requires.last c.requires.zeroed

pub add_one-requires-clause-room : goal.add_one-requires-clause-room
add_one-requires-clause-room c =
    let w = c.wire_source-from.ensures in
    let h : c.loop-v.v < size c.args.net.now.net = omega (arith, c.loop-v-test.true, c.node_count-v-end.ensures.count) in
    omega (arith, number_small _ _ c.requires.last c.loop-v.invariant h w.root w.source, c.loop-v-test.true, c.node_count-v-end.ensures.few)

pub loop-v-preserved : goal.loop-v-preserved
loop-v-preserved c =
    let w = c.wire_source-from.ensures in
    let h : c.loop-v.v < size c.args.net.now.net = omega (arith, c.loop-v-test.true, c.node_count-v-end.ensures.count) in
    counting_more _ _ c.requires.last c.loop-v.invariant h w.root w.source c.add_one.ensures

pub returns : goal.returns
returns c = counting_all _ _ c.requires.last c.loop-v.invariant (omega (arith, c.loop-v-test.false, c.node_count-v-end.ensures.count, c.requires.last.inside))
