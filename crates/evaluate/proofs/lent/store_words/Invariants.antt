-- The loop's invariant: the words of the first nodes are written.
use lib.ListN.{get_or}
use Rattle.evaluate.specs.Filling.{Filling}
use Rattle.evaluate.proofs.lent.store_words.Given as goal

abbrev pub invariant-loop-i : goal.invariant-loop-i
invariant-loop-i l = Filling (λ u. get_or l.words u 0) l.members l.initial.out l.out l.i
