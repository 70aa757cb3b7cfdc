-- By the laws of a try at one node.
use mathlib.Core.Path.{refl}
use Prim.Native.Nat.{◌≤◌}
use native.Mathlib.Omega.{arith}
use lib.ListN.{get_or}
use Rattle.netlist.specs.Net.{in_clock}
use Rattle.order.specs.Pass.{once_on}
use Rattle.order.specs.Order.{flags_in}
use Rattle.order.specs.OrderLaws.{few}
use Rattle.order.proofs.Places.{flag_read, placed_once}
use Rattle.order.proofs.place.Goals as goal

pub returns-then-read_at-gt0 : goal.returns-then-read_at-gt0
returns-then-read_at-gt0 c =
    let flag = flag_read c.args.area.now c.told-area refl c.read_at.ensures in
    once_on c.requires.placed (omega (arith, c.if-read_at-gt0.true, flag))

pub write_at-requires : goal.write_at-requires
write_at-requires c = omega (arith, few in_clock c.args.net.now.net c.requires.placed, c.bounds.ensures.nodes, c.told-area)

pub overflow_add-result : goal.overflow_add-result
overflow_add-result c = omega (arith, few in_clock c.args.net.now.net c.requires.placed, c.bounds.ensures.nodes)

pub returns : goal.returns
returns c =
    let area = c.args.area.now in
    let flag = flag_read area c.told-area refl c.read_at.ensures in
    let off : get_or (flags_in area) c.args.v 0 ≤ 0 = omega (arith, c.if-read_at-gt0.false, flag) in
    let all = c.missing-u.ensures.none (omega (arith, c.if-u-lt-NONE.false, c.missing-u.ensures.word)) in
    placed_once in_clock c.args.net.now.net area c.told-area c.bounds.ensures.nodes c.requires.placed c.requires.sourced c.requires.node off all c.write_at.ensures c.write_at-2.ensures
