-- A register has one source, and nothing else steps.
use Rattle.std.proofs.Common.{◌∙◌, sym, ap, arith}
use Rattle.lists.specs.Lists.{one}
use Rattle.netlist.specs.Net.{element_at, register_few, Sourced}
use Rattle.cycles.proofs.rings.falls.Goals as goal

pub read_at-requires : goal.read_at-requires
unfolding Sourced
read_at-requires c =
    let s = c in
    let N = s.args.net.now.net in
    let inside = s.requires.sourced s.args.v 0 s.requires.node (omega (arith, ap one (sym c.is_register.ensures ∙ c.if-is_register.true), register_few (element_at N s.args.v))) in
    omega (arith, c.source.ensures.source, inside, c.bounds.ensures.nodes, c.told-ranks)
