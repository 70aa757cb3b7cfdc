use Rattle.std.proofs.Common.{◌∙◌, sym, ap, length}
use Rattle.netlist.specs.Net.{size}
use Rattle.circuit.specs.Shown.{Shown}
use Rattle.circuit.proofs.CircuitLaws.{size_of, size_order}
use Rattle.circuit.proofs.opened.Netlist.bounds.Goals as goal

pub returns-clause-order : goal.returns-clause-order
returns-clause-order c =
    sym (ap (λ (h : Shown). length h.order) c.self.view_is) ∙ size_order c.self.inside.net.now ∙ sym (size_of c.self.inside.file.now c.self.inside.net.now) ∙ ap (λ (h : Shown). size h.net) c.self.view_is
