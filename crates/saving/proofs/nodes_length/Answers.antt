-- The fields of the first nodes are counted.
use native.Mathlib.Omega.{arith}
use Rattle.netlist.specs.Net.{nowhere}
use Rattle.netlist.specs.File.{node_bytes}
use Rattle.saving.specs.Firsts.{summing_none, summing_more, summing_done}
use Rattle.saving.specs.Encoded.{listed_node}
use mathlib.Core.Path.{refl}
use Rattle.saving.proofs.nodes_length.Goals as goal

pub loop-v-init : goal.loop-v-init
loop-v-init c = let a = c.args in summing_none node_bytes a.net.now.net.nodes 12

pub loop-v-preserved : goal.loop-v-preserved
loop-v-preserved c = let a = c.args in let t = c.loop-v.invariant in let n = c.node_length-sum.ensures in summing_more t nowhere (omega (arith, c.loop-v-test.true, c.node_count-n.ensures.count)) (listed_node a.net.now.net c.loop-v.v refl) (omega (arith, n.length)) (omega (arith, t.small, n.few))

pub returns-clause-length : goal.returns-clause-length
returns-clause-length c = let t = c.loop-v.invariant in let n = c.node_count-n.ensures in summing_done t (omega (arith, c.loop-v-test.false, n.count))
