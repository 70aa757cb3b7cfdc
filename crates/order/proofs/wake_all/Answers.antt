use Prim.Native.Nat.{◌<◌}
use native.Mathlib.Omega.{arith}
use Rattle.order.proofs.Places.{order_read}
use Rattle.order.proofs.wake_all.Goals as goal

pub wake-k-requires-clause-few : goal.wake-k-requires-clause-few
wake-k-requires-clause-few c =
    let l = c.loop-i in
    let i : l.i < 1024 = omega (arith, c.loop-i-test.true, c.node_count-n.ensures.few) in
    omega (arith, order_read l.area i c.read_at.ensures, l.invariant.ordered.inside l.i (omega (arith, c.if-k-i.false)), c.bounds.ensures.nodes)
