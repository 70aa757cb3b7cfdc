use Rattle.std.proofs.Common.{◌<◌, ◌∙◌, ap, arith, length}
use Rattle.netlist.specs.Net.{size}
use Rattle.circuit.specs.Circuit.{order_of}
use Rattle.circuit.specs.Shown.{Shown}
use Rattle.circuit.proofs.CircuitLaws.{size_of, size_order}
use Rattle.order.proofs.Places.{copied_more}
use Rattle.order.proofs.keep_order.Goals as goal

pub loop-i-preserved : goal.loop-i-preserved
loop-i-preserved c =
    let a = c.args in
    let l = c.loop-i in
    let w = c.put_order.ensures in
    let n = c.node_count-n.ensures.count ∙ ap (λ (h : Shown). size h.net) c.of.ensures in
    let h : l.i < length (order_of l.net) = omega (arith, size_order l.net, size_of a.file.now l.net, ap size l.invariant.net, c.loop-i-test.true, n) in
    record {
      net = w.net ∙ l.invariant.net;
      circuit = w.circuit;
      order = copied_more (order_of l.net) a.area.now h w.order c.read_at.ensures l.invariant.order;
    }
