-- The loop's invariant: the first j are brought. What is read stands behind all places.
use Prim.Native.Nat.{◌+◌}
use lib.ListN.{get_or}
use Rattle.stepping.specs.Putting.{Put}
use Rattle.stepping.proofs.clock.keep_next.Given as goal

abbrev pub invariant-loop-j : goal.invariant-loop-j
invariant-loop-j l = Put l.from l.j (λ k. get_or l.initial.words (2048 + k) 0) l.initial.words l.words
