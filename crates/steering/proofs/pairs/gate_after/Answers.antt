-- The next gate, or the wire.
use mathlib.Core.Path.{sym}
use native.Mathlib.Omega.{arith}
use Rattle.steering.specs.GatesLaws.{after-gate, after_last}
use Rattle.steering.proofs.pairs.gate_after.Goals as goal

pub returns-then-t-count : goal.returns-then-t-count
returns-then-t-count c = let a = c.args in sym (after-gate a.head a.start a.count a.t (omega (arith, c.if-t-count.true)))

pub returns-else-t-count : goal.returns-else-t-count
returns-else-t-count c = let a = c.args in sym (after_last a.head a.start a.count a.t (omega (arith, c.if-t-count.false)))
