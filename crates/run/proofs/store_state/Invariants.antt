-- The loop's invariant: the next words of the first members are written.
use Rattle.evaluate.specs.Next.{next_word}
use Rattle.evaluate.specs.Filling.{Filling}
use Rattle.run.proofs.store_state.Given as goal

abbrev pub invariant-loop-k : goal.invariant-loop-k
invariant-loop-k l = Filling (λ u. next_word l.net.net l.words u) l.members l.initial.state l.state l.k
