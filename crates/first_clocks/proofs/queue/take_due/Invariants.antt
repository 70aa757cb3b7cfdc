use Prim.Native.Nat.{◌-◌}
use Rattle.first_clocks.specs.Queue.{AlongSlot}
use Rattle.first_clocks.proofs.queue.take_due.Given as goal

abbrev pub invariant-loop-k : goal.invariant-loop-k
invariant-loop-k l = AlongSlot l.queue l.t l.words l.initial.found l.found l.k

abbrev pub decreases-loop-k : goal.decreases-loop-k
decreases-loop-k l = 3072 - l.k
