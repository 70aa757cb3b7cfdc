-- The loop's invariant: the places before i are copied.
use Rattle.std.specs.Prelude.{◌≡◌, ℕ, ◌<◌, get_or}
use Rattle.circuit.specs.Circuit.{net_of, order_of, Circuit}
use Rattle.order.proofs.keep_order.Given as goal

abbrev pub invariant-loop-i : goal.invariant-loop-i
invariant-loop-i l = record {
  net : net_of l.file l.net ≡ net_of l.file l.initial.net;
  circuit : Circuit l.file l.net;
  order : (j : ℕ) → j < l.i → get_or (order_of l.net) j 0 ≡ get_or l.area j 0;
}
