-- The rows one after the other, then the clock, then the writes.
use mathlib.Core.Path.{sym, ap, ◌∙◌}
use mathlib.Core.List.{List}
use Prim.Native.Nat.{ℕ}
use native.Mathlib.Omega.{arith}
use Rattle.netlist.specs.declared.Answer.TheVariants.{Accepted}
use Rattle.behaviour.specs.Service.{bytes_of}
use Rattle.behaviour.proofs.Parts.{ran}
use Rattle.evaluate.specs.declared.Row.TheVariants.{Outputs, State}
use Rattle.run.proofs.Joined.{run_fits, run_outputs_lem, run_state_lem}
use Rattle.run.proofs.Outcomes.{row_bytes_lem, row_near, row_room, row_other, row_length, run_inputs, run_room, run_refused, run_done}
use Rattle.run.proofs.run_opened.Goals as goal

pub store_words-requires-clause-nodes : goal.store_words-requires-clause-nodes
store_words-requires-clause-nodes c i h =
    let x = c.load_row.ensures.loaded c.if-not-load_row.false in
    let y = c.load_row-2.ensures.loaded c.if-not-load_row-2.false in
    omega (arith, row_near c.args.net.now.net Outputs c.row_members-m.ensures.members c.bounds.ensures.nodes i h, x.kept, y.kept, c.evaluate.ensures.kept)

pub store_state-requires-clause-state : goal.store_state-requires-clause-state
store_state-requires-clause-state c =
    let m = c.row_members-k.ensures in
    row_bytes_lem _ m.few (row_length c.args.net.now.net State _ m.members m.few c.args.state.now (sym c.load_row-2.ensures.fitting ∙ c.if-not-load_row-2.false))

pub store_state-requires-clause-fit : goal.store_state-requires-clause-fit
store_state-requires-clause-fit c =
    run_fits (c.load_row.ensures.loaded c.if-not-load_row.false) (c.load_row-2.ensures.loaded c.if-not-load_row-2.false) c.requires.formed c.evaluate.ensures

pub returns : goal.returns
returns c =
    let a = c.args in
    let wf = c.requires.formed in
    let N = a.net.now.net in
    let m = c.row_members-m.ensures in
    let x = c.load_row.ensures.loaded c.if-not-load_row.false in
    let y = c.load_row-2.ensures.loaded c.if-not-load_row-2.false in
    let e = c.evaluate.ensures in
    let fit = sym c.load_row.ensures.fitting ∙ c.if-not-load_row.false in
    let room = row_room N Outputs _ m.members m.few a.outputs.now c.if-outputs-m.false in
    let held = sym c.load_row-2.ensures.fitting ∙ c.if-not-load_row-2.false in
    let o = ran (run_done N a.state.now a.inputs.now a.outputs.now fit room held) in
    record {
      answer = ap Accepted c.store_words.auto.out ∙ o.0;
      state = c.store_state.ensures ∙ ap (λ (l : List ℕ). bytes_of l) (run_state_lem x y wf e) ∙ o.1;
      outputs = c.store_words.ensures ∙ ap (λ (l : List ℕ). bytes_of l) (run_outputs_lem x y wf e m.members) ∙ o.2;
    }

pub returns-then-not-load_row-2 : goal.returns-then-not-load_row-2
returns-then-not-load_row-2 c =
    let a = c.args in
    let N = a.net.now.net in
    let fit = sym c.load_row.ensures.fitting ∙ c.if-not-load_row.false in
    let m = c.row_members-m.ensures in
    let room = row_room N Outputs _ m.members m.few a.outputs.now c.if-outputs-m.false in
    let o = ran (run_refused N a.state.now a.inputs.now a.outputs.now fit room (sym c.load_row-2.ensures.fitting ∙ c.if-not-load_row-2.true)) in
    record {
      answer = o.0;
      state = o.1;
      outputs = o.2;
    }

pub returns-then-outputs-m : goal.returns-then-outputs-m
returns-then-outputs-m c =
    let a = c.args in
    let N = a.net.now.net in
    let fit = sym c.load_row.ensures.fitting ∙ c.if-not-load_row.false in
    let m = c.row_members-m.ensures in
    let o = ran (run_room N a.state.now a.inputs.now a.outputs.now fit (row_other N Outputs _ m.members m.few a.outputs.now c.if-outputs-m.true)) in
    record {
      answer = o.0;
      state = o.1;
      outputs = o.2;
    }

pub returns-then-not-load_row : goal.returns-then-not-load_row
returns-then-not-load_row c =
    let a = c.args in
    let o = ran (run_inputs a.net.now.net a.state.now a.inputs.now a.outputs.now (sym c.load_row.ensures.fitting ∙ c.if-not-load_row.true)) in
    record {
      answer = o.0;
      state = o.1;
      outputs = o.2;
    }
