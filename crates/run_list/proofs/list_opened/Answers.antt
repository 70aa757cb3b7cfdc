-- By the verdict. The order is another one, and the netlist the same.
use Rattle.std.proofs.lemmas.Result.{err_from_is_err_and}
use mathlib.Core.Path.{ap, ◌∙◌}
use Rattle.lists.specs.Lists.{below, concat_map}
use Rattle.netlist.specs.Net.{Net}
use Rattle.netlist.specs.declared.Answer.TheVariants.{Accepted}
use Rattle.circuit.specs.Circuit.{net_of}
use Rattle.circuit.specs.Shown.{Shown}
use Rattle.behaviour.specs.Service.{bytes_of, words_in}
use Rattle.behaviour.specs.RunList.{list_verdict}
use Rattle.behaviour.specs.RunListLaws.{states_from, row_words}
use Rattle.behaviour.proofs.Parts.{ran}
use Rattle.run_list.specs.Clocks.{shown_at}
use Rattle.run_list.specs.ListNet.{net_as}
use Rattle.run_list.proofs.list_opened.Goals as goal

pub returns-in_err-check_list-clause-answer : goal.returns-in_err-check_list-clause-answer
returns-in_err-check_list-clause-answer c =
    let a = c.args in
    let v = c.in_err-check_list.ensures ∙ ap (λ (h : Shown). list_verdict h.net a.state.now a.inputs.now a.outputs.now a.clocks) c.of.ensures in
    let p = err_from_is_err_and c.from_residual.result c.from_residual.ensures.1 in
    rw (p.1, p.2) (ran (net_as (net_of a.file.now a.net.now) a.state.now a.inputs.now a.outputs.now a.clocks v)).0

pub returns-in_err-check_list-clause-state : goal.returns-in_err-check_list-clause-state
returns-in_err-check_list-clause-state c =
    let a = c.args in
    let v = c.in_err-check_list.ensures ∙ ap (λ (h : Shown). list_verdict h.net a.state.now a.inputs.now a.outputs.now a.clocks) c.of.ensures in
    (ran (net_as (net_of a.file.now a.net.now) a.state.now a.inputs.now a.outputs.now a.clocks v)).1

pub returns-in_err-check_list-clause-outputs : goal.returns-in_err-check_list-clause-outputs
returns-in_err-check_list-clause-outputs c =
    let a = c.args in
    let v = c.in_err-check_list.ensures ∙ ap (λ (h : Shown). list_verdict h.net a.state.now a.inputs.now a.outputs.now a.clocks) c.of.ensures in
    (ran (net_as (net_of a.file.now a.net.now) a.state.now a.inputs.now a.outputs.now a.clocks v)).2

pub returns-clause-answer : goal.returns-clause-answer
returns-clause-answer c =
    let a = c.args in
    let v = c.in_ok-check_list.ensures ∙ ap (λ (h : Shown). list_verdict h.net a.state.now a.inputs.now a.outputs.now a.clocks) c.of.ensures in
    ap Accepted c.run_clocks.auto.outputs ∙ (ran (net_as (net_of a.file.now a.net.now) a.state.now a.inputs.now a.outputs.now a.clocks v)).0

pub returns-clause-state : goal.returns-clause-state
returns-clause-state c =
    let a = c.args in
    let v = c.in_ok-check_list.ensures ∙ ap (λ (h : Shown). list_verdict h.net a.state.now a.inputs.now a.outputs.now a.clocks) c.of.ensures in
    let same = ap (λ (h : Shown). h.net) c.of-2.ensures ∙ c.group_nodes.ensures.net in
    c.run_clocks.ensures.state ∙ ap (λ (M : Net). bytes_of (states_from M (words_in a.state.now) (row_words M a.inputs.now) a.clocks)) same
    ∙ (ran (net_as (net_of a.file.now a.net.now) a.state.now a.inputs.now a.outputs.now a.clocks v)).1

pub returns-clause-outputs : goal.returns-clause-outputs
returns-clause-outputs c =
    let a = c.args in
    let v = c.in_ok-check_list.ensures ∙ ap (λ (h : Shown). list_verdict h.net a.state.now a.inputs.now a.outputs.now a.clocks) c.of.ensures in
    let same = ap (λ (h : Shown). h.net) c.of-2.ensures ∙ c.group_nodes.ensures.net in
    c.run_clocks.ensures.outputs ∙ ap (λ (M : Net). concat_map (shown_at M (words_in a.state.now) a.inputs.now) (below a.clocks)) same
    ∙ (ran (net_as (net_of a.file.now a.net.now) a.state.now a.inputs.now a.outputs.now a.clocks v)).2
