use mathlib.Core.List.{List}
use Prim.Native.Nat.{ℕ, ◌-◌, ◌≤◌}
use lib.ListN.{length}
use Rattle.first_clocks.specs.Queue.{dues_in}
use Rattle.first_clocks.specs.Wanted.{WordsAt, Asked, TakenBefore}
use Rattle.first_clocks.proofs.take_later.Given as goal

abbrev pub invariant-loop-t : goal.invariant-loop-t
invariant-loop-t l = WordsAt l.net.net (l.t - 1) l.words
    × ((clocks wanted before : List ℕ) → length clocks ≤ 3072 → Asked clocks (dues_in l.queue) → TakenBefore l.net.net clocks wanted (dues_in l.queue) before l.initial.found 1 → TakenBefore l.net.net clocks wanted (dues_in l.queue) before l.found l.t)
