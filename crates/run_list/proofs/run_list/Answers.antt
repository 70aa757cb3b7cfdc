-- What opening tells, and the list over the netlist.
use mathlib.Core.Path.{◌∙◌}
use native.Mathlib.Omega.{arith}
use Rattle.codec.specs.Bytes.{Bytes}
use Rattle.checks.specs.Open.{open_shown}
use Rattle.checks.specs.Opens.{open_formed, open_inside}
use Rattle.behaviour.proofs.RunListLaws.{list_turned_away}
use borrow.Author.Rules.{rules}
use Rattle.behaviour.proofs.Parts.{ran}
use Rattle.run_list.specs.ListNet.{list_net_lem}
use Rattle.run_list.proofs.run_list.Goals as goal

pub list_opened-requires-clause-circuit : goal.list_opened-requires-clause-circuit
list_opened-requires-clause-circuit c = c.in-Ok.ensures.ok.circuit

pub list_opened-requires-clause-formed : goal.list_opened-requires-clause-formed
list_opened-requires-clause-formed c = open_formed (λ i. omega (arith, c.type_inv.file i)) (open_shown c.in-Ok.ensures.ok)

pub list_opened-requires-clause-inside : goal.list_opened-requires-clause-inside
list_opened-requires-clause-inside c = open_inside (λ i. omega (arith, c.type_inv.file i)) (open_shown c.in-Ok.ensures.ok)

pub returns-in-Ok-clause-answer : goal.returns-in-Ok-clause-answer
returns-in-Ok-clause-answer c =
    let a = c.args in
    let o = open_shown c.in-Ok.ensures.ok in
    let d : Bytes a.state.now = search rules in
    let e = ran (list_net_lem _ a.state.now a.inputs.now a.outputs.now a.clocks a.file.now o.file (open_formed (λ i. omega (arith, c.type_inv.file i)) o) d) in
    c.from.ensures ∙ c.list_opened.ensures.answer ∙ e.0

pub returns-in-Ok-clause-state : goal.returns-in-Ok-clause-state
returns-in-Ok-clause-state c =
    let a = c.args in
    let o = open_shown c.in-Ok.ensures.ok in
    let d : Bytes a.state.now = search rules in
    let e = ran (list_net_lem _ a.state.now a.inputs.now a.outputs.now a.clocks a.file.now o.file (open_formed (λ i. omega (arith, c.type_inv.file i)) o) d) in
    c.list_opened.ensures.state ∙ e.1

pub returns-in-Ok-clause-outputs : goal.returns-in-Ok-clause-outputs
returns-in-Ok-clause-outputs c =
    let a = c.args in
    let o = open_shown c.in-Ok.ensures.ok in
    let d : Bytes a.state.now = search rules in
    let e = ran (list_net_lem _ a.state.now a.inputs.now a.outputs.now a.clocks a.file.now o.file (open_formed (λ i. omega (arith, c.type_inv.file i)) o) d) in
    c.list_opened.ensures.outputs ∙ e.2

pub returns-in-Err-clause-answer : goal.returns-in-Err-clause-answer
returns-in-Err-clause-answer c = let a = c.args in c.from-in-Err.ensures ∙ (ran (list_turned_away a.file.now a.state.now a.inputs.now a.outputs.now a.clocks c.in-Err.ensures.err)).0

pub returns-in-Err-clause-state : goal.returns-in-Err-clause-state
returns-in-Err-clause-state c = let a = c.args in (ran (list_turned_away a.file.now a.state.now a.inputs.now a.outputs.now a.clocks c.in-Err.ensures.err)).1

pub returns-in-Err-clause-outputs : goal.returns-in-Err-clause-outputs
returns-in-Err-clause-outputs c = let a = c.args in (ran (list_turned_away a.file.now a.state.now a.inputs.now a.outputs.now a.clocks c.in-Err.ensures.err)).2
