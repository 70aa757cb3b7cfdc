use mathlib.Core.Path.{refl, sym, ap, subst, ◌∙◌}
use mathlib.Core.List.{List}
use Prim.Native.Nat.{ℕ, ◌+◌}
use native.Mathlib.Omega.{arith}
use Rattle.lists.proofs.SelectLaws.{member, members_map}
use Rattle.netlist.specs.Net.{size, element_at}
use Rattle.behaviour.specs.Run.{holds_first, reset_state}
use Rattle.behaviour.specs.Service.{bytes_of}
use Rattle.evaluate.specs.Rows.{row_test}
use Rattle.evaluate.specs.declared.Row.TheVariants.{State}
use Rattle.evaluate.specs.Filling.{Filling, fill_put, fill_all}
use Rattle.run.proofs.store_reset.Goals as goal

pub reset_word-requires-clause-node : goal.reset_word-requires-clause-node
reset_word-requires-clause-node c = (member (row_test State c.args.net.now.net) (size c.args.net.now.net) c.requires.members c.loop-i-test.true refl).low

pub reset_word-requires-clause-holds : goal.reset_word-requires-clause-holds
reset_word-requires-clause-holds c = (member (row_test State c.args.net.now.net) (size c.args.net.now.net) c.requires.members c.loop-i-test.true refl).on

pub loop-i-preserved : goal.loop-i-preserved
loop-i-preserved c =
    let a = c.args in
    let N = a.net.now.net in
    let more = fill_put c.loop-i.invariant c.loop-i-test.true refl c.reset_word.result c.reset_word.ensures in
    subst (λ (l : List ℕ). Filling (λ u. holds_first (element_at N u)) a.members.now a.state.now l (c.loop-i.i + 1)) (sym c.put_word.ensures) more

pub returns : goal.returns
unfolding reset_state
returns c =
    let a = c.args in
    let N = a.net.now.net in
    fill_all c.loop-i.invariant (omega arith) ∙ ap (λ (l : List ℕ). bytes_of l) (members_map (row_test State N) (size N) c.requires.members (λ u. holds_first (element_at N u)))
