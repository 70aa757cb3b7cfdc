-- The loop's invariant: what the first j read is put. It stands behind the places, so what is read stays.
use Prim.Native.Nat.{◌+◌}
use lib.ListN.{get_or}
use Rattle.schedule.specs.Lines.{place_on}
use Rattle.stepping.specs.Putting.{Put}
use Rattle.stepping.proofs.clock.put_read.Given as goal

abbrev pub invariant-loop-j : goal.invariant-loop-j
invariant-loop-j l = Put 2048 l.j (λ k. get_or l.initial.words (place_on l.schedule (l.from + k) 0) 0) l.initial.words l.words
