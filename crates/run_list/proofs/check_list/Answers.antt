-- By the tests, in their order.
use mathlib.Core.Path.{◌≡◌, sym, ap, ◌∙◌}
use Prim.Native.Nat.{ℕ, ◌*◌}
use lib.ListN.{length}
use lib.Dec.{eqb}
use Rattle.behaviour.specs.RunList.{row_bytes}
use Rattle.evaluate.specs.Rows.{row_widths}
use Rattle.evaluate.specs.declared.Row.TheVariants.{Outputs}
use Rattle.run_list.specs.Verdict.{members_length, list_fine, list_state, list_outputs, list_inputs}
use Rattle.run_list.proofs.check_list.Goals as goal

pub returns-then-not-rows_fit : goal.returns-then-not-rows_fit
returns-then-not-rows_fit c =
    let a = c.args in
    list_inputs a.net.now.net a.state.now a.inputs.now a.outputs.now a.clocks (sym c.rows_fit.ensures ∙ c.if-not-rows_fit.true)

pub returns-then-not-are_rows : goal.returns-then-not-are_rows
returns-then-not-are_rows c =
    let a = c.args in
    let N = a.net.now.net in
    let m = c.row_members-m in
    let w : 2 * m.result ≡ row_bytes (row_widths Outputs N) = members_length N Outputs m.new.members (m.ensures.members, m.ensures.few) in
    let e = ap (λ (k : ℕ). eqb (length a.outputs.now) (k * a.clocks)) (sym w) ∙ sym c.are_rows.ensures in
    let fit = sym c.rows_fit.ensures ∙ c.if-not-rows_fit.false in
    list_outputs N a.state.now a.inputs.now a.outputs.now a.clocks fit (e ∙ c.if-not-are_rows.true)

pub returns-then-not-load_row : goal.returns-then-not-load_row
returns-then-not-load_row c =
    let a = c.args in
    let N = a.net.now.net in
    let m = c.row_members-m in
    let w : 2 * m.result ≡ row_bytes (row_widths Outputs N) = members_length N Outputs m.new.members (m.ensures.members, m.ensures.few) in
    let e = ap (λ (k : ℕ). eqb (length a.outputs.now) (k * a.clocks)) (sym w) ∙ sym c.are_rows.ensures in
    let fit = sym c.rows_fit.ensures ∙ c.if-not-rows_fit.false in
    list_state N a.state.now a.inputs.now a.outputs.now a.clocks fit (e ∙ c.if-not-are_rows.false) (sym c.load_row.ensures.fitting ∙ c.if-not-load_row.true)

pub returns : goal.returns
returns c =
    let a = c.args in
    let N = a.net.now.net in
    let m = c.row_members-m in
    let w : 2 * m.result ≡ row_bytes (row_widths Outputs N) = members_length N Outputs m.new.members (m.ensures.members, m.ensures.few) in
    let e = ap (λ (k : ℕ). eqb (length a.outputs.now) (k * a.clocks)) (sym w) ∙ sym c.are_rows.ensures in
    let fit = sym c.rows_fit.ensures ∙ c.if-not-rows_fit.false in
    list_fine N a.state.now a.inputs.now a.outputs.now a.clocks fit (e ∙ c.if-not-are_rows.false) (sym c.load_row.ensures.fitting ∙ c.if-not-load_row.false)
