-- Neither the flags nor the order are touched.
use Prim.Native.Nat.{◌+◌}
use native.Mathlib.Omega.{arith}
use Rattle.order.proofs.Places.{waits_kept}
use Rattle.order.proofs.wait.Goals as goal

pub returns-clause-flags : goal.returns-clause-flags
returns-clause-flags c = let a = c.args in (waits_kept a.area.now _ _ a.u a.v (a.v + 1) c.read_at-head.result c.write_at.ensures c.write_at-2.ensures c.requires (omega (arith, c.if-u-gt1023.false))).0

pub returns-clause-order : goal.returns-clause-order
returns-clause-order c = let a = c.args in (waits_kept a.area.now _ _ a.u a.v (a.v + 1) c.read_at-head.result c.write_at.ensures c.write_at-2.ensures c.requires (omega (arith, c.if-u-gt1023.false))).1
