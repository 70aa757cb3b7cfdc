-- The loop's invariant: the reset words of the first members are written.
use Rattle.netlist.specs.Net.{element_at}
use Rattle.behaviour.specs.Run.{holds_first}
use Rattle.evaluate.specs.Filling.{Filling}
use Rattle.run.proofs.store_reset.Given as goal

abbrev pub invariant-loop-i : goal.invariant-loop-i
invariant-loop-i l = Filling (λ u. holds_first (element_at l.net.net u)) l.members l.initial.state l.state l.i
