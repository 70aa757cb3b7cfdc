-- The loop's invariant: so many are placed.
use Prim.Native.Nat.{◌≤◌}
use Rattle.netlist.specs.Net.{in_clock}
use Rattle.order.specs.Order.{flags_in, order_in, Placed}
use Rattle.order.proofs.wake.Given as goal

abbrev pub invariant-loop-i : goal.invariant-loop-i
invariant-loop-i l = (l.w ≤ 65535) × Placed in_clock l.net.net (flags_in l.area) (order_in l.area) l.k
