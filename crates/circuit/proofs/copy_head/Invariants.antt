use Rattle.std.proofs.Common.{◌≡◌, length}
use Rattle.circuit.specs.Circuit.{tables_of}
use Rattle.circuit.proofs.Heading.{Heading}
use Rattle.circuit.proofs.copy_head.Given as goal

abbrev pub invariant-loop-t : goal.invariant-loop-t
invariant-loop-t l = (length l.new ≡ length l.initial.new) × Heading (tables_of l.net) l.new l.t
