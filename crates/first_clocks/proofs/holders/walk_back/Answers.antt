-- The loop's invariant: the holder is so many registers back.
use mathlib.Core.Path.{sym, subst}
use Prim.Native.Nat.{◌+◌}
use native.Mathlib.Omega.{arith}
use Rattle.first_clocks.specs.Holders.{Holder, holder_more}
use Rattle.first_clocks.proofs.holders.walk_back.Goals as goal

pub loop-back-preserved : goal.loop-back-preserved
loop-back-preserved c =
    let l = c.loop-back in
    subst (Holder c.args.net.now.net c.args.from.node (l._back + 1)) (sym c.source-holder.ensures.source)
    (holder_more _ c.requires.formed l.invariant (omega (arith, c.loop-back-test.true, c.requires.passed)))
