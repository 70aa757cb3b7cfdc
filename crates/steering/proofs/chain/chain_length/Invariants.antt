-- The loop's invariant: the largest of the first x nodes.
use mathlib.Core.Path.{◌≡◌}
use Prim.Native.Nat.{◌≤◌}
use Rattle.lists.specs.Lists.{largest}
use Rattle.behaviour.specs.Run.{zero_word}
use Rattle.retiming.specs.Gates.{steers_of}
use Rattle.retiming.specs.Modes.{mode_timing}
use Rattle.steering.proofs.chain.chain_length.Given as goal

abbrev pub invariant-loop-x : goal.invariant-loop-x
invariant-loop-x l = let N = l.net.net in record { most : l.most ≡ largest l.x (steers_of N (mode_timing l.mode N) (zero_word N)); few : l.most ≤ 2051 }
