-- The loop's invariant: the sources passed are flagged.
use mathlib.Core.Path.{◌≡◌}
use mathlib.Core.Bool.{true}
use Prim.Native.Nat.{ℕ, ◌<◌}
use Rattle.netlist.specs.Net.{source}
use Rattle.order.specs.Pass.{on}
use Rattle.order.specs.Order.{flags_in}
use Rattle.order.proofs.missing.Given as goal

abbrev pub invariant-loop-p : goal.invariant-loop-p
invariant-loop-p l = (j : ℕ) → j < l.p → on (flags_in l.area) (source l.net.net l.v j) ≡ true
