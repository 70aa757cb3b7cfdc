use mathlib.Core.Path.{◌≡◌}
use Prim.Native.Nat.{◌*◌}
use Rattle.retiming.specs.Modes.{mode_timing}
use Rattle.wiring.specs.Wiring.{heads_in, Entered}
use Rattle.wiring.proofs.enter_wires.Given as goal

abbrev pub invariant-loop-x : goal.invariant-loop-x
invariant-loop-x l = Entered l.net.net (mode_timing l.mode l.net.net) l.wires (3 * l.x) × (heads_in l.wires ≡ heads_in l.initial.wires)
