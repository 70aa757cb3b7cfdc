-- The loop's invariant: the first j words are put.
use Prim.Native.Nat.{◌*◌}
use Rattle.words.specs.Words.{word}
use Rattle.stepping.specs.Putting.{Put}
use Rattle.stepping.proofs.clock.put_row.Given as goal

abbrev pub invariant-loop-j : goal.invariant-loop-j
invariant-loop-j l = Put l.from l.j (λ k. word l.bytes (2 * k)) l.initial.words l.words
