-- The nodes are listed and placed, then the lines are put, then the output ports.
use native.Mathlib.Omega.{arith}
use Rattle.schedule.specs.ListedLaws.{few_lines, few_outputs, lines_inside, ports_inside}
use Rattle.schedule.specs.Places.{near_zeros}
use Rattle.schedule.specs.Scheduling.{scheduled}
use Rattle.schedule.proofs.lay_out.Goals as goal

pub first_places-requires-clause-few : goal.first_places-requires-clause-few
first_places-requires-clause-few c = omega (arith, c.requires.formed.fields.bounds.nodes, few_lines c.list_nodes-sizes.ensures)

pub first_places-requires-clause-known : goal.first_places-requires-clause-known
first_places-requires-clause-known c = λ i h. omega (arith, c.requires.formed.fields.bounds.nodes, lines_inside c.list_nodes-sizes.ensures c.requires.formed c.requires.complete i h)

pub first_places-requires-clause-near : goal.first_places-requires-clause-near
first_places-requires-clause-near c = near_zeros 1024

pub put_lines-requires-clause-few : goal.put_lines-requires-clause-few
put_lines-requires-clause-few c = omega (arith, c.requires.formed.fields.bounds.nodes, few_lines c.list_nodes-sizes.ensures)

pub put_lines-requires-clause-known : goal.put_lines-requires-clause-known
put_lines-requires-clause-known c = lines_inside c.list_nodes-sizes.ensures c.requires.formed c.requires.complete

pub put_ports-requires-clause-few : goal.put_ports-requires-clause-few
put_ports-requires-clause-few c = omega (arith, c.requires.formed.fields.bounds.nodes, few_outputs c.list_nodes-sizes.ensures)

pub put_ports-requires-clause-nodes : goal.put_ports-requires-clause-nodes
put_ports-requires-clause-nodes c =
    let r = c.list_nodes-sizes.ensures in
    omega (arith, c.requires.formed.fields.bounds.nodes, few_lines r, few_outputs r)

pub put_ports-requires-clause-known : goal.put_ports-requires-clause-known
put_ports-requires-clause-known c = ports_inside c.list_nodes-sizes.ensures

pub returns : goal.returns
returns c =
    let p = c.requires in
    let f = c.first_places in
    let l = c.put_lines in
    scheduled p.formed p.inside p.complete c.list_nodes-sizes.ensures (omega (arith, p.formed.fields.bounds.nodes)) f.ensures
    l.ensures (omega (arith, p.schedule, l.auto.schedule)) c.put_ports.ensures
