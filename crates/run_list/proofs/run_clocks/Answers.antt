-- The state is put at its places, the clocks are done, and it is written back.
use mathlib.Core.Path.{ap, ◌∙◌}
use mathlib.Core.List.{List}
use Prim.Native.Nat.{ℕ}
use native.Mathlib.Omega.{arith}
use Rattle.lists.specs.Lists.{below, concat_map}
use Rattle.behaviour.specs.Service.{bytes_of}
use Rattle.behaviour.specs.RunListLaws.{states_from, row_words}
use Rattle.run_list.specs.Clocks.{shown_at, state_bytes_lem, state_put, state_fits_lem}
use Rattle.run_list.proofs.run_clocks.Goals as goal

pub put_row-requires : goal.put_row-requires
put_row-requires c =
    let t = c.lay_out-sizes.ensures in
    omega (arith, state_bytes_lem c.args.state.now t c.requires.state, t.front, t.few)

pub step_clocks-requires-clause-state : goal.step_clocks-requires-clause-state
step_clocks-requires-clause-state c = state_fits_lem c.args.state.now c.lay_out-sizes.ensures c.requires.state c.put_row.ensures (omega arith)

pub store_state-requires-clause-room : goal.store_state-requires-clause-room
store_state-requires-clause-room c = state_bytes_lem c.args.state.now c.lay_out-sizes.ensures c.requires.state

pub returns-clause-state : goal.returns-clause-state
returns-clause-state c =
    let a = c.args in
    let N = a.net.now.net in
    let e = state_put a.state.now c.lay_out-sizes.ensures c.requires.state c.put_row.ensures (omega arith) in
    c.store_state.ensures ∙ ap (λ (l : List ℕ). bytes_of l) (c.step_clocks.ensures.state ∙ ap (λ (l : List ℕ). states_from N l (row_words N a.inputs.now) a.clocks) e)

pub returns-clause-outputs : goal.returns-clause-outputs
returns-clause-outputs c =
    let a = c.args in
    let e = state_put a.state.now c.lay_out-sizes.ensures c.requires.state c.put_row.ensures (omega arith) in
    c.step_clocks.ensures.outputs ∙ ap (λ (l : List ℕ). concat_map (shown_at a.net.now.net l a.inputs.now) (below a.clocks)) e
