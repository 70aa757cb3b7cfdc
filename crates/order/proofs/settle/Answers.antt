use native.Mathlib.Omega.{arith}
use Rattle.netlist.specs.Net.{in_clock}
use Rattle.order.specs.OrderLaws.{few, none_waiting}
use Rattle.order.proofs.settle.Goals as goal

pub returns-clause-waiting : goal.returns-clause-waiting
returns-clause-waiting c =
    let N = c.args.net.now.net in
    let k = c.loop-k.invariant in
    none_waiting in_clock N k (omega (arith, few in_clock N k, c.loop-k-test.false, c.node_count-n.ensures.count))
