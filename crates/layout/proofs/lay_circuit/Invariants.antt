-- The loop's invariant: the first i nodes are laid.
use Rattle.circuit.specs.Circuit.{tables_of}
use Rattle.circuit.specs.Building.{Building}
use Rattle.layout.specs.Layout.{new_net}
use Rattle.layout.proofs.lay_circuit.Given as goal

abbrev pub invariant-loop-i : goal.invariant-loop-i
invariant-loop-i l = Building (tables_of l.initial.new) (new_net l.from).nodes l.new l.i
