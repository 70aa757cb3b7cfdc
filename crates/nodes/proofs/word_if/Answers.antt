-- The two ways of the test.
use mathlib.Core.Path.{refl}
use Rattle.lists.proofs.Paths.{on_lt, off_lt}
use Rattle.nodes.proofs.word_if.Goals as goal

pub returns-then-i-n : goal.returns-then-i-n
returns-then-i-n c = on_lt _ _ _ _ c.if-i-n.true c.word_at.ensures

pub returns-else-i-n : goal.returns-else-i-n
returns-else-i-n c = off_lt _ _ _ _ c.if-i-n.false refl
