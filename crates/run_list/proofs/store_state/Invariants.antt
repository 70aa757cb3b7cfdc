-- The loop's invariant: the first j words are written.
use Prim.Native.Nat.{◌+◌}
use lib.ListN.{get_or}
use Rattle.lists.specs.Lists.{below}
use Rattle.evaluate.specs.Filling.{Filling}
use Rattle.run_list.proofs.store_state.Given as goal

abbrev pub invariant-loop-j : goal.invariant-loop-j
invariant-loop-j l = Filling (λ k. get_or l.words (l.from + k) 0) (below l.held) l.initial.state l.state l.j
