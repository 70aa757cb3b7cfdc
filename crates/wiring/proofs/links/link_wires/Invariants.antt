use mathlib.Core.Path.{◌≡◌}
use Rattle.wiring.specs.Wiring.{ends_in, clocks_in, heads_in}
use Rattle.wiring.specs.Links.{LinkedFrom}
use Rattle.wiring.proofs.links.link_wires.Given as goal

abbrev pub invariant-loop-k : goal.invariant-loop-k
invariant-loop-k l = LinkedFrom (ends_in l.initial.wires) (clocks_in l.initial.wires) l.count (heads_in l.wires) (clocks_in l.wires) l.k × (ends_in l.wires ≡ ends_in l.initial.wires)
