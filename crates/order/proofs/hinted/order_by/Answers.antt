-- The nodes of the hint, then passes over what is left; as there is no loop, that places all, and the order is kept.
use Rattle.std.proofs.Common.{refl, sym, subst, replicate}
use Rattle.netlist.specs.Net.{in_clock, Sourced}
use Rattle.circuit.specs.Circuit.{net_of, order_of}
use Rattle.circuit.specs.Shown.{Shown}
use Rattle.order.specs.Order.{Outcome}
use Rattle.order.specs.OrderLaws.{all_placed}
use Rattle.order.proofs.Places.{placed_start, outcome_in}
use Rattle.order.proofs.hinted.order_by.Goals as goal

pub place_hinted-placed-requires-clause-placed : goal.place_hinted-placed-requires-clause-placed
place_hinted-placed-requires-clause-placed c = placed_start in_clock c.of-shown.result.net (replicate 4096 0) refl c.bounds.ensures.nodes

pub returns-clause-complete : goal.returns-clause-complete
returns-clause-complete c =
    let w = c.settle in
    let o = c.keep_order in
    let e = c.of-shown.ensures in
    let well = c.requires.formed in
    all_placed in_clock (net_of c.args.file.now c.args.net.now) (subst (λ (h : Shown). Outcome in_clock h.net (order_of o.new.net) w.result) e
    (outcome_in in_clock c.of-shown.result.net w.new.area (order_of o.new.net) c.bounds.ensures.nodes (subst (λ (h : Shown). Sourced h.net) (sym e) well.sourced) w.ensures.placed w.ensures.waiting (rw e o.ensures.order))) well.no_loop
