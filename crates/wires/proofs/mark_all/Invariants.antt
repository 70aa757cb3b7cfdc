use mathlib.Core.Path.{◌≡◌}
use lib.ListN.{take}
use Rattle.wires.specs.Traced.{roots_in, passes_in, HalfTraced}
use Rattle.wires.proofs.mark_all.Given as goal

abbrev pub invariant-loop-v : goal.invariant-loop-v
invariant-loop-v l = HalfTraced l.net.net (roots_in l.timing) (passes_in l.timing) l.v × (take 1024 l.timing ≡ take 1024 l.initial.timing)
