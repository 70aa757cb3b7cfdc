-- One way for each mode; of the late start, one for an input port and one for any other node.
use mathlib.Core.Path.{sym, ◌∙◌}
use native.Mathlib.Omega.{arith}
use Rattle.leads.proofs.ByMode.{timed_plain, timed_late}
use Rattle.leads.proofs.modes.timed.Goals as goal

pub overflow_sub-result : goal.overflow_sub-result
overflow_sub-result c =
    let p = c.requires in
    omega (arith, timed_plain _ p.sourced p.node p.base c.in-Plain.is p.no_debt p.found)

pub returns-in-Plain : goal.returns-in-Plain
returns-in-Plain c =
    let p = c.requires in
    omega (arith, timed_plain _ p.sourced p.node p.base c.in-Plain.is p.no_debt p.found)

pub returns-then-is_input : goal.returns-then-is_input
returns-then-is_input c =
    let p = c.requires in
    timed_late _ p.sourced p.node p.base c.in-Late.is (sym c.is_input.ensures ∙ c.if-is_input.true) p.found

pub returns-else-is_input : goal.returns-else-is_input
returns-else-is_input c =
    let p = c.requires in
    timed_late _ p.sourced p.node p.base c.in-Late.is (sym c.is_input.ensures ∙ c.if-is_input.false) p.found
