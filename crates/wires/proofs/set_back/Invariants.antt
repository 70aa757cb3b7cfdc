use mathlib.Core.Path.{◌≡◌}
use lib.ListN.{take}
use Rattle.wires.specs.Traced.{roots_in, passes_in}
use Rattle.wires.specs.TracedLaws.{Setting}
use Rattle.wires.proofs.set_back.Given as goal

abbrev pub invariant-loop-timing : goal.invariant-loop-timing
invariant-loop-timing l = Setting l.net.net (roots_in l.initial.timing) (passes_in l.initial.timing) (roots_in l.timing) (passes_in l.timing) l.v l.u l.from l.left × (take 1024 l.timing ≡ take 1024 l.initial.timing)

abbrev pub decreases-loop-timing : goal.decreases-loop-timing
decreases-loop-timing l = l.left
