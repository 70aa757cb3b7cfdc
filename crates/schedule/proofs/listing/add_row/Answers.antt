-- The row's members are put into the rest of the list.
use native.Mathlib.Omega.{arith}
use Rattle.netlist.specs.Net.{size}
use Rattle.evaluate.specs.Rows.{row_test}
use Rattle.schedule.specs.Listing.{added_members}
use Rattle.schedule.proofs.listing.add_row.Goals as goal

pub returns : goal.returns
returns c =
    let a = c.args in
    let N = a.net.now.net in
    let r = c.row_members in
    added_members (row_test a.row N) (size N) a.nodes.now r.new.members _ r.ensures.members r.ensures.few (omega (arith, c.requires))
