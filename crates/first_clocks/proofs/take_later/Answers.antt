-- The loop's invariant: the words of the clock before t stand, and what is due before t is taken.
use mathlib.Core.Path.{◌≡◌, subst}
use Prim.Native.Nat.{ℕ, ◌+◌, ◌-◌}
use native.Mathlib.Omega.{arith}
use Rattle.first_clocks.specs.Queue.{dues_in}
use Rattle.first_clocks.specs.Wanted.{WordsAt, TakenBefore, taken_more}
use Rattle.first_clocks.proofs.take_later.Goals as goal

pub loop-t-preserved : goal.loop-t-preserved
loop-t-preserved c =
    let s = c.loop-t in
    let N = c.args.net.now.net in
    let Now : ℕ → Type 0 = λ t. WordsAt N t c.next_clock.new.words in
    let now = subst Now (let e : s.t - 1 + 1 ≡ s.t = omega (arith, s.auto.t) in e) (c.next_clock.ensures (s.t - 1) s.invariant.0) in (
      subst Now (let e : s.t ≡ s.t + 1 - 1 = omega arith in e) now,
      λ clocks wanted before few asked t. taken_more N clocks wanted (dues_in c.args.queue.now) before few asked (omega (arith, c.loop-t-test.true, c.requires.few)) (s.invariant.1 clocks wanted before few asked t) now c.take_due.ensures,
    )

pub returns : goal.returns
returns c =
    let s = c.loop-t in
    let e : s.t ≡ c.args.limit = omega (arith, s.auto.t-end, c.requires.some, c.loop-t-test.false) in
    λ clocks wanted before few asked t. subst (TakenBefore c.args.net.now.net clocks wanted (dues_in c.args.queue.now) before s.found) e (s.invariant.1 clocks wanted before few asked t)
