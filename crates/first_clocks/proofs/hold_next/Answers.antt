-- The loop's invariant: the members before this one have their words.
use mathlib.Core.Path.{refl, ap}
use native.Mathlib.Omega.{arith}
use lib.ListN.{set}
use Rattle.std.proofs.Common.{rules}
use Rattle.first_clocks.specs.NextClock.{held_more, held_all, state_member}
use Rattle.first_clocks.proofs.hold_next.Goals as goal

pub next_word-requires-clause-node : goal.next_word-requires-clause-node
next_word-requires-clause-node c = (state_member _ c.requires.members c.loop-member-test.true refl).low

pub next_word-requires-clause-holds : goal.next_word-requires-clause-holds
next_word-requires-clause-holds c = (state_member _ c.requires.members c.loop-member-test.true refl).on

pub bounds-next-v : goal.bounds-next-v
bounds-next-v c = omega (arith, (state_member _ c.requires.members c.loop-member-test.true refl).low, c.bounds.ensures.nodes)

pub loop-member-preserved : goal.loop-member-preserved
loop-member-preserved c =
    let low = (state_member _ c.requires.members c.loop-member-test.true refl).low in
    let few = c.bounds.ensures.nodes in
    held_more _ _ _ _ c.loop-member.invariant refl (search rules) (ap (set _ _) c.next_word.ensures)

pub returns : goal.returns
returns c = held_all _ _ _ c.requires.members c.loop-member.invariant (omega (arith, c.loop-member-test.false))
