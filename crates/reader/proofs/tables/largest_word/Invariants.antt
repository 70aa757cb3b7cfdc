-- The loop's invariant: `most` is the largest of the words passed.
use Rattle.std.specs.Prelude.{◌≡◌, ◌*◌}
use Rattle.lists.specs.Lists.{largest}
use Rattle.words.specs.Words.{word}
use Rattle.reader.proofs.tables.largest_word.Given as goal

abbrev pub invariant-loop-i : goal.invariant-loop-i
invariant-loop-i l = l.most ≡ largest l.i (λ a. word l.words (2 * a))
