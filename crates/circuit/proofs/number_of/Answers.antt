use mathlib.Core.Path.{sym, ap, ◌∙◌}
use Prim.Native.Nat.{ℕ}
use Rattle.netlist.specs.Net.{element_at}
use Rattle.circuit.specs.Circuit.{net_of}
use Rattle.circuit.specs.Code.{number_or}
use Rattle.circuit.proofs.CircuitLaws.{number_at}
use Rattle.circuit.proofs.number_of.Goals as goal

pub returns-clause-number : goal.returns-clause-number
returns-clause-number c = let a = c.args in let e = c.field_of.ensures.word in e ∙ number_at a.file.now a.net.now c.requires.circuit a.v c.requires.node ∙ ap (λ (x : ℕ). number_or x (element_at (net_of a.file.now a.net.now) a.v)) (sym e)

pub returns-clause-few : goal.returns-clause-few
returns-clause-few c = let a = c.args in let e = c.field_of.ensures.word in c.field_of.ensures.few
