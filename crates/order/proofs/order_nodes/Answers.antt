-- The nodes in file order, then those that wait, then passes over what is left; and the order is kept.
use Rattle.std.proofs.Common.{refl, sym, subst, replicate}
use Rattle.netlist.specs.Net.{in_clock, Sourced}
use Rattle.circuit.specs.Circuit.{order_of}
use Rattle.circuit.specs.Shown.{Shown}
use Rattle.order.specs.Order.{Outcome}
use Rattle.order.proofs.Places.{placed_start, outcome_in}
use Rattle.order.proofs.order_nodes.Goals as goal

pub sweep-first-requires-clause-placed : goal.sweep-first-requires-clause-placed
sweep-first-requires-clause-placed c = placed_start in_clock c.of-shown.result.net (replicate 4096 0) refl c.bounds.ensures.nodes

pub returns-clause-outcome : goal.returns-clause-outcome
returns-clause-outcome c =
    let w = c.settle-settled in
    let o = c.keep_order in
    let e = c.of-shown.ensures in
    subst (λ (h : Shown). Outcome in_clock h.net (order_of o.new.net) w.result) e
    (outcome_in in_clock c.of-shown.result.net w.new.area (order_of o.new.net) c.bounds.ensures.nodes (subst (λ (h : Shown). Sourced h.net) (sym e) c.requires.sourced) w.ensures.placed w.ensures.waiting (rw e o.ensures.order))
