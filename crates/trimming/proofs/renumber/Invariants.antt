-- The nodes before v read their tables at the new numbers.
use Rattle.std.specs.Prelude.{get_or}
use Rattle.trimming.specs.Renumbering.{Renumbering}
use Rattle.trimming.proofs.renumber.Given as goal

abbrev pub invariant-loop-v : goal.invariant-loop-v
invariant-loop-v l = Renumbering (λ m. get_or l.numbers m 0) l.initial.net l.v l.net
