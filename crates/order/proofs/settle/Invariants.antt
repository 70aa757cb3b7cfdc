-- The loop's invariant: so many are placed. Where a pass places nothing, the flags are as before it and none could be placed; where all are placed, none waits.
use Prim.Native.Nat.{◌-◌}
use Rattle.netlist.specs.Net.{in_clock, size}
use Rattle.order.specs.Order.{flags_in, order_in, Placed}
use Rattle.order.proofs.settle.Given as goal

abbrev pub invariant-loop-k : goal.invariant-loop-k
invariant-loop-k l = Placed in_clock l.net.net (flags_in l.area) (order_in l.area) l.k

abbrev pub decreases-loop-k : goal.decreases-loop-k
decreases-loop-k l = size l.net.net - l.k
