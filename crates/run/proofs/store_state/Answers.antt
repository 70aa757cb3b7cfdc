use mathlib.Core.Path.{refl, sym, ap, subst, ◌∙◌}
use mathlib.Core.List.{List}
use Prim.Native.Nat.{ℕ, ◌+◌}
use native.Mathlib.Omega.{arith}
use Rattle.lists.proofs.SelectLaws.{member, members_map}
use Rattle.netlist.specs.Net.{size}
use Rattle.behaviour.specs.Service.{bytes_of, words_in}
use Rattle.evaluate.specs.Rows.{row_test}
use Rattle.evaluate.specs.Next.{next_word, next_state_lem}
use Rattle.evaluate.specs.declared.Row.TheVariants.{State}
use Rattle.evaluate.specs.Filling.{Filling, fill_put, fill_all}
use Rattle.run.proofs.store_state.Goals as goal

pub next_word-requires-clause-node : goal.next_word-requires-clause-node
next_word-requires-clause-node c = (member (row_test State c.args.net.now.net) (size c.args.net.now.net) c.requires.members c.loop-k-test.true refl).low

pub next_word-requires-clause-holds : goal.next_word-requires-clause-holds
next_word-requires-clause-holds c = (member (row_test State c.args.net.now.net) (size c.args.net.now.net) c.requires.members c.loop-k-test.true refl).on

pub loop-k-preserved : goal.loop-k-preserved
loop-k-preserved c =
    let a = c.args in
    let N = a.net.now.net in
    let more = fill_put c.loop-k.invariant c.loop-k-test.true refl c.next_word.result c.next_word.ensures in
    subst (λ (l : List ℕ). Filling (λ u. next_word N a.words.now u) a.members.now a.state.now l (c.loop-k.k + 1)) (sym c.put_word.ensures) more

pub returns : goal.returns
returns c =
    let a = c.args in
    let N = a.net.now.net in
    fill_all c.loop-k.invariant (omega arith) ∙ ap (λ (l : List ℕ). bytes_of l) (members_map (row_test State N) (size N) c.requires.members (λ u. next_word N a.words.now u) ∙ next_state_lem N (words_in a.state.now) a.words.now)
