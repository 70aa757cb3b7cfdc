use mathlib.Core.Path.{sym, ◌∙◌}
use native.Mathlib.Omega.{arith}
use Rattle.circuit.proofs.CircuitLaws.{size_of, order_at}
use Rattle.circuit.proofs.order_of.Goals as goal

pub returns-clause-turn : goal.returns-clause-turn
returns-clause-turn c = let a = c.args in c.field_of.ensures.word ∙ sym (order_at a.net.now a.i (omega (arith, c.requires.node, size_of a.file.now a.net.now)))

pub returns-clause-few : goal.returns-clause-few
returns-clause-few c = let a = c.args in c.field_of.ensures.few
