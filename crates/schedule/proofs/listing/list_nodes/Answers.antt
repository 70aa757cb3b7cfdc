-- Class by class: the first two have at most as many places as there are nodes, and so has the third.
use native.Mathlib.Omega.{arith}
use Rattle.lists.proofs.BelowLaws.{count_below-le}
use Rattle.netlist.specs.Net.{size}
use Rattle.evaluate.specs.Rows.{row_test}
use Rattle.evaluate.specs.declared.Row.TheVariants.{Inputs}
use Rattle.schedule.specs.Listed.{inner_at}
use Rattle.schedule.specs.ListedLaws.{few_front}
use Rattle.schedule.specs.Listing.{listed_all}
use Rattle.schedule.proofs.listing.list_nodes.Goals as goal

pub add_row-front-requires : goal.add_row-front-requires
add_row-front-requires c =
    let N = c.args.net.now.net in
    let r = c.add_row-inputs in
    omega (arith, c.bounds.ensures.nodes, c.told-nodes, r.auto.nodes, r.ensures.ends, count_below-le (row_test Inputs N) (size N))

pub add_inner-lines-requires-clause-room : goal.add_inner-lines-requires-clause-room
add_inner-lines-requires-clause-room c =
    let N = c.args.net.now.net in
    let r = c.add_row-inputs in
    let s = c.add_row-front in
    omega (arith, c.bounds.ensures.nodes, c.told-nodes, r.auto.nodes, s.auto.nodes, r.ensures.ends, s.ensures.ends, few_front N (size N))

pub add_row-end-requires : goal.add_row-end-requires
add_row-end-requires c =
    let N = c.args.net.now.net in
    let r = c.add_row-inputs in
    let s = c.add_row-front in
    let i = c.add_inner-lines in
    omega (
      arith,
      c.bounds.ensures.nodes,
      c.told-nodes,
      r.auto.nodes,
      s.auto.nodes,
      i.auto.nodes,
      r.ensures.ends,
      s.ensures.ends,
      i.ensures.ends,
      few_front N (size N),
      count_below-le (inner_at N c.args.net.now.order) (size N),
    )

pub returns : goal.returns
returns c = listed_all c.add_row-inputs.ensures c.add_row-front.ensures c.add_inner-lines.ensures c.add_row-end.ensures
