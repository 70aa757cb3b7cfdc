use mathlib.Core.Path.{◌≡◌, sym, ap, ◌∙◌}
use Prim.Native.Nat.{ℕ, ◌+◌, ◌*◌}
use native.Mathlib.Omega.{arith}
use lib.ListN.{length}
use lib.Dec.{eqb}
use Rattle.lists.proofs.BelowLaws.{eqb-true}
use Rattle.behaviour.specs.Service.{fitting_bytes}
use Rattle.behaviour.specs.RunList.{row_bytes}
use Rattle.evaluate.specs.Rows.{row_widths}
use Rattle.evaluate.specs.declared.Row.TheVariants.{Inputs}
use Rattle.run_list.specs.Rows.{row_inside, row_none, row_fails, rows_fit, row_part, row_length}
use Rattle.run_list.proofs.rows_fit.Goals as goal

pub returns-then-not-are_rows : goal.returns-then-not-are_rows
returns-then-not-are_rows c =
    let a = c.args in
    let ws = row_widths Inputs a.net.now.net in
    let l : 2 * length a.members.now ≡ row_bytes ws = row_length a.net.now.net Inputs c.requires.members in
    let e = c.are_rows.ensures ∙ ap (λ (k : ℕ). eqb (length a.inputs.now) (k * a.clocks)) l in
    row_none ws a.inputs.now a.clocks (sym e ∙ c.if-not-are_rows.true)

pub overflow_add-end : goal.overflow_add-end
overflow_add-end c =
    let a = c.args in
    let ws = row_widths Inputs a.net.now.net in
    let l : 2 * length a.members.now ≡ row_bytes ws = row_length a.net.now.net Inputs c.requires.members in
    let e = c.are_rows.ensures ∙ ap (λ (k : ℕ). eqb (length a.inputs.now) (k * a.clocks)) l in
    let long : length a.inputs.now ≡ row_bytes ws * a.clocks = eqb-true (sym e ∙ c.if-not-are_rows.false) in
    omega (arith, row_inside ws a.inputs.now a.clocks c.loop-i._i c.loop-i-test.true long, c.loop-i.invariant.0)

pub slice_bounds-load_row-end : goal.slice_bounds-load_row-end
slice_bounds-load_row-end c =
    let a = c.args in
    let ws = row_widths Inputs a.net.now.net in
    let l : 2 * length a.members.now ≡ row_bytes ws = row_length a.net.now.net Inputs c.requires.members in
    let e = c.are_rows.ensures ∙ ap (λ (k : ℕ). eqb (length a.inputs.now) (k * a.clocks)) l in
    let long : length a.inputs.now ≡ row_bytes ws * a.clocks = eqb-true (sym e ∙ c.if-not-are_rows.false) in
    omega (arith, row_inside ws a.inputs.now a.clocks c.loop-i._i c.loop-i-test.true long, c.loop-i.invariant.0)

pub returns-then-not-load_row : goal.returns-then-not-load_row
returns-then-not-load_row c =
    let a = c.args in
    let t = c.loop-i in
    let ws = row_widths Inputs a.net.now.net in
    let l : 2 * length a.members.now ≡ row_bytes ws = row_length a.net.now.net Inputs c.requires.members in
    row_fails ws a.inputs.now a.clocks t._i c.loop-i-test.true
    (ap (fitting_bytes ws) (sym (row_part (row_bytes ws) a.inputs.now t._i t.invariant.0 (ap (t.at +◌) l))) ∙ sym c.load_row.ensures.fitting ∙ c.if-not-load_row.true)

pub returns : goal.returns
returns c =
    let a = c.args in
    let t = c.loop-i in
    let ws = row_widths Inputs a.net.now.net in
    let l : 2 * length a.members.now ≡ row_bytes ws = row_length a.net.now.net Inputs c.requires.members in
    let e = c.are_rows.ensures ∙ ap (λ (k : ℕ). eqb (length a.inputs.now) (k * a.clocks)) l in
    rows_fit ws a.inputs.now a.clocks (sym e ∙ c.if-not-are_rows.false) (λ i h. t.invariant.2 i (omega (arith, c.loop-i-test.false)))
