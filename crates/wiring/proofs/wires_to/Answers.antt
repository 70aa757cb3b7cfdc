-- None at a register or a node that is left out, else the node's sources.
use mathlib.Core.Path.{sym, ◌∙◌}
use native.Mathlib.Omega.{arith}
use Rattle.netlist.specs.Net.{element_at}
use Rattle.retiming.specs.Modes.{mode_timing}
use Rattle.wiring.specs.WiringLaws.{register_wires, other_wires, count_left, count_kept, count_wires}
use Rattle.wiring.proofs.wires_to.Goals as goal
use Rattle.wiring.proofs.wires_to.Goals.{else-stays-via-then-stays+else-not-is_register, else-stays-via-else-stays}

pub returns-then-not-is_register-clause-count : goal.returns-then-not-is_register-clause-count
returns-then-not-is_register-clause-count c =
    let a = c.args in
    let N = a.net.now.net in
    c.source_count.ensures.count ∙ other_wires (element_at N a.v) (sym c.is_register.ensures ∙ c.if-not-is_register.true) ∙ sym (count_kept N _ a.v (sym c.stays.ensures ∙ c.if-stays.true))

pub returns-else-stays-clause-count : goal.returns-else-stays-clause-count
returns-else-stays-clause-count c =
    let a = c.args in
    let N = a.net.now.net in
    elim c.else-stays.branch [
      | else-stays-via-then-stays+else-not-is_register w ↦
          omega (arith, count_wires N (mode_timing a.mode N) a.v, register_wires (element_at N a.v) (sym w.is_register.ensures ∙ w.if-not-is_register.false))
      | else-stays-via-else-stays w ↦ sym (count_left N _ a.v (sym c.stays.ensures ∙ w.if-stays.false))
    ]
