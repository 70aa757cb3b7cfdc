-- What is put, done, written and kept, one after the other.
use mathlib.Core.Path.{◌≡◌, ap, ◌∙◌}
use mathlib.Core.List.{List, map}
use Prim.Native.Nat.{ℕ, ◌+◌, ◌-◌, ◌≤◌}
use native.Mathlib.Omega.{arith}
use lib.ListN.{length, get_or, take, drop}
use Rattle.behaviour.specs.Service.{bytes_of}
use Rattle.schedule.specs.Lines.{outputs_from}
use Rattle.stepping.specs.NextLaws.{few_held}
use Rattle.stepping.specs.Clock.{outputs_near, row_ready, ready_fit, clock_outputs, clock_state}
use Rattle.stepping.proofs.clock.clock.Goals as goal

pub step_lines-requires-clause-fit : goal.step_lines-requires-clause-fit
step_lines-requires-clause-fit c =
    let p = c.requires in
    ready_fit p.formed p.scheduled (row_ready c.args.inputs.now c.args.words.now c.put_row.new.words p.scheduled c.put_row.ensures p.inputs p.input_words p.state_words)

pub store_words-requires-clause-nodes : goal.store_words-requires-clause-nodes
store_words-requires-clause-nodes c =
    let z = c.args.sizes in
    let m : outputs_from + z.outputs - outputs_from ≡ z.outputs = omega arith in
    let space : 3072 ≤ length c.step_lines.new.words = omega (arith, c.requires.words, c.step_lines.ensures.kept, c.put_row.ensures.kept) in
    λ j h. omega (arith, outputs_near c.requires.scheduled m j h, space)

pub keep_next-requires-clause-held : goal.keep_next-requires-clause-held
keep_next-requires-clause-held c = few_held c.requires.scheduled c.requires.formed.fields.bounds.nodes

pub returns-clause-outputs : goal.returns-clause-outputs
returns-clause-outputs c =
    let a = c.args in
    let p = c.requires in
    let r = row_ready a.inputs.now a.words.now c.put_row.new.words p.scheduled c.put_row.ensures p.inputs p.input_words p.state_words in
    let m : outputs_from + a.sizes.outputs - outputs_from ≡ a.sizes.outputs = omega arith in
    c.store_words.ensures
    ∙ ap (λ (k : ℕ). bytes_of (map (λ v. get_or c.step_lines.new.words v 0) (take k (drop outputs_from a.schedule.now)))) m
    ∙ ap (λ (x : List ℕ). bytes_of x) (clock_outputs p.formed p.scheduled r c.step_lines.ensures)

pub returns-clause-state : goal.returns-clause-state
returns-clause-state c =
    let p = c.requires in
    let s = c.step_lines.ensures in
    let r = row_ready c.args.inputs.now c.args.words.now c.put_row.new.words p.scheduled c.put_row.ensures p.inputs p.input_words p.state_words in
    clock_state p.formed p.scheduled r s c.put_next.ensures c.keep_next.ensures (omega (arith, p.words, s.kept, c.put_row.ensures.kept))
