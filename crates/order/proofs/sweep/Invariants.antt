-- The loop's invariant: a pass over the nodes before v.
use Rattle.netlist.specs.Net.{in_clock}
use Rattle.order.specs.Order.{flags_in, order_in, PlacedPass}
use Rattle.order.proofs.sweep.Given as goal

abbrev pub invariant-loop-v : goal.invariant-loop-v
invariant-loop-v l = PlacedPass in_clock l.net.net (flags_in l.initial.area) (flags_in l.area) (order_in l.area) l.start l.k l.v
