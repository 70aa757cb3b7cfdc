-- Held, stored and evaluated.
use native.Mathlib.Omega.{arith}
use Prim.Native.Nat.{◌+◌}
use Rattle.first_clocks.specs.ZeroRun.{row_fits, words_at_lem, fits_at}
use Rattle.first_clocks.specs.NextClock.{loads_next}
use Rattle.first_clocks.proofs.next_clock.Goals as goal

pub hold_next-requires-clause-fit : goal.hold_next-requires-clause-fit
hold_next-requires-clause-fit c = fits_at _ c.requires.formed c.requires.clock.0 c.args.words.now c.requires.clock.1

pub evaluate-requires-clause-inputs : goal.evaluate-requires-clause-inputs
evaluate-requires-clause-inputs c =
    let t = c.requires.clock.0 in
    let N = c.args.net.now.net in
    let next = loads_next N c.requires.formed t c.requires.members (omega (arith, c.bounds.ensures.nodes, c.told-words)) c.requires.clock.1 c.hold_next.ensures c.store_next.ensures in
    (row_fits N c.requires.formed (t + 1) _ next).0

pub evaluate-requires-clause-state : goal.evaluate-requires-clause-state
evaluate-requires-clause-state c =
    let t = c.requires.clock.0 in
    let N = c.args.net.now.net in
    let next = loads_next N c.requires.formed t c.requires.members (omega (arith, c.bounds.ensures.nodes, c.told-words)) c.requires.clock.1 c.hold_next.ensures c.store_next.ensures in
    (row_fits N c.requires.formed (t + 1) _ next).1

pub returns : goal.returns
returns c t w =
    let N = c.args.net.now.net in
    let next = loads_next N c.requires.formed t c.requires.members (omega (arith, c.bounds.ensures.nodes, c.told-words)) w c.hold_next.ensures c.store_next.ensures in
    words_at_lem N c.requires.formed (t + 1) _ next c.evaluate.ensures
