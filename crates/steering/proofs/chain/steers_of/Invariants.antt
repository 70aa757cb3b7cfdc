-- The loop's invariant: the largest of the first p operands.
use mathlib.Core.Path.{◌≡◌}
use Prim.Native.Nat.{◌≤◌}
use Rattle.lists.specs.Lists.{largest}
use Rattle.behaviour.specs.Run.{zero_word}
use Rattle.retiming.specs.Gates.{steers_on}
use Rattle.retiming.specs.Modes.{mode_timing}
use Rattle.steering.proofs.chain.steers_of.Given as goal

abbrev pub invariant-loop-p : goal.invariant-loop-p
invariant-loop-p l = let N = l.net.net in record { most : l.most ≡ largest l.p (steers_on N (mode_timing l.mode N) (zero_word N) l.x); few : l.most ≤ 2051 }
