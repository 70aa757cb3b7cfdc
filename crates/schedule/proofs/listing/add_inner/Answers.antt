use mathlib.Core.Path.{ap, ◌∙◌}
use Prim.Native.Nat.{ℕ}
use native.Mathlib.Omega.{arith}
use lib.ListN.{length-set}
use Rattle.lists.specs.Lists.{one}
use Rattle.netlist.specs.Net.{element_at}
use Rattle.evaluate.proofs.Counted.{counted_one, counted_few}
use Rattle.schedule.specs.Lines.{is_inner}
use Rattle.schedule.specs.Listing.{added_more}
use Rattle.schedule.proofs.listing.add_inner.Goals as goal

pub loop-i-preserved : goal.loop-i-preserved
loop-i-preserved c =
    let t = c.loop-i in
    let N = c.args.net.now.net in
    let e = c.turn-v.ensures.turn in
    let r = c.is_inner in (
      omega (arith, counted_few r.result),
      length-set t.nodes t.end c.turn-v.result ∙ t.invariant.1,
      added_more t.invariant.2 (omega arith) e (counted_one r.result ∙ ap one r.ensures ∙ ap (λ (u : ℕ). one (is_inner (element_at N u))) e),
    )
