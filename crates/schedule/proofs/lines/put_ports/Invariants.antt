-- The loop's invariant: the first j ports have their places.
use Rattle.schedule.specs.Ports.{PortsPut}
use Rattle.schedule.proofs.lines.put_ports.Given as goal

abbrev pub invariant-loop-j : goal.invariant-loop-j
invariant-loop-j l = PortsPut l.net.net l.nodes l.places l.initial.schedule l.schedule l.from l.j
