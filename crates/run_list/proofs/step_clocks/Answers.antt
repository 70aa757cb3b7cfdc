use mathlib.Core.Path.{refl, sym, ap, ap₂, ◌∙◌}
use mathlib.Core.List.{List}
use Prim.Native.Nat.{ℕ, ◌+◌, ◌*◌}
use native.Mathlib.Nat.{mul-zero, mul-suc}
use native.Mathlib.Numerals.{add-one}
use native.Mathlib.Omega.{arith}
use borrow.Rule.Slice.PartMut.{mid_len}
use Rattle.behaviour.specs.Runs.{input_widths, output_widths, fitting}
use Rattle.behaviour.specs.Service.{words_in}
use Rattle.behaviour.specs.RunList.{row_bytes}
use Rattle.behaviour.proofs.RunListLaws.{row_fits}
use Rattle.stepping.specs.Clock.{state_in}
use Rattle.run_list.specs.Clocks.{clocked_none, clocked_more, scheduled_rows, input_end, input_row, input_long, output_end, output_room, clocked_fits, shown_long}
use Rattle.run_list.proofs.step_clocks.Goals as goal

pub slice_bounds-clock-end : goal.slice_bounds-clock-end
slice_bounds-clock-end c =
    let p = c.requires in
    omega (arith, input_end p.scheduled c.args.clocks c.loop-i-test.true c.args.inputs.now p.rows c.loop-i.invariant.0)

pub slice_bounds-clock-end-in-loop-i : goal.slice_bounds-clock-end-in-loop-i
slice_bounds-clock-end-in-loop-i c =
    let a = c.args in
    let p = c.requires in
    let t = c.loop-i in
    let y = c.loop-i-test.true in
    let long = output_room p.scheduled a.clocks y a.outputs.now p.room (state_in a.sizes a.words.now) a.inputs.now t.invariant.3 in
    omega (arith, output_end p.scheduled a.clocks y a.outputs.now p.room t.invariant.1, long)

pub clock-requires-clause-inputs : goal.clock-requires-clause-inputs
clock-requires-clause-inputs c = input_long c.requires.scheduled c.args.clocks c.loop-i-test.true c.args.inputs.now c.requires.rows c.loop-i.invariant.0

pub clock-requires-clause-outputs : goal.clock-requires-clause-outputs
clock-requires-clause-outputs c =
    let a = c.args in
    let p = c.requires in
    let t = c.loop-i in
    let y = c.loop-i-test.true in
    let long = output_room p.scheduled a.clocks y a.outputs.now p.room (state_in a.sizes a.words.now) a.inputs.now t.invariant.3 in
    mid_len t.to (t.to + 2 * a.sizes.outputs) t.outputs (omega (arith, output_end p.scheduled a.clocks y a.outputs.now p.room t.invariant.1, long)) ∙ omega arith

pub clock-requires-clause-input_words : goal.clock-requires-clause-input_words
clock-requires-clause-input_words c =
    let a = c.args in
    let p = c.requires in
    let N = a.net.now.net in
    ap (λ (l : List ℕ). fitting (input_widths N) (words_in l)) (input_row p.scheduled a.clocks c.loop-i-test.true a.inputs.now p.rows c.loop-i.invariant.0)
    ∙ row_fits N a.inputs.now a.clocks p.rows c.loop-i._i c.loop-i-test.true

pub clock-requires-clause-state_words : goal.clock-requires-clause-state_words
clock-requires-clause-state_words c =
    let a = c.args in
    let p = c.requires in
    clocked_fits a.net.now.net p.formed (state_in a.sizes a.words.now) a.inputs.now a.clocks p.rows p.state c.loop-i.invariant.3 (omega (arith, c.loop-i-test.true))

pub loop-i-init : goal.loop-i-init
loop-i-init c = (sym (mul-zero _), sym (mul-zero _), refl, clocked_none _ _ _ _)

pub loop-i-preserved : goal.loop-i-preserved
loop-i-preserved c =
    let a = c.args in
    let p = c.requires in
    let t = c.loop-i in
    let y = c.loop-i-test.true in
    let N = a.net.now.net in
    let w = scheduled_rows p.scheduled in
    let r = c.clock.ensures in (
      ap₂ ◌+◌ t.invariant.0 w.0 ∙ sym (mul-suc (row_bytes (input_widths N)) t._i) ∙ ap (row_bytes (input_widths N) *◌) (sym (add-one t._i)),
      ap₂ ◌+◌ t.invariant.1 w.1 ∙ sym (mul-suc (row_bytes (output_widths N)) t._i) ∙ ap (row_bytes (output_widths N) *◌) (sym (add-one t._i)),
      c.clock.auto.words ∙ t.invariant.2,
      clocked_more N (state_in a.sizes a.words.now) a.inputs.now a.outputs.now t.invariant.3 (ap words_in (input_row p.scheduled a.clocks y a.inputs.now p.rows t.invariant.0)) r.state r.outputs t.invariant.1
          (ap (t.to +◌) w.1) (shown_long N p.formed (state_in a.sizes a.words.now) a.inputs.now a.clocks p.rows p.state t._i),
    )
