-- Outside: no node passed reaches itself. Inside: what is marked is reached, and each round that goes on marks more.
use mathlib.Core.Path.{◌≡◌}
use Prim.Native.Nat.{◌-◌}
use Rattle.lists.proofs.SearchLaws.{Passed}
use Rattle.netlist.specs.Net.{size}
use Rattle.netlist.specs.Reach.{reaches_itself}
use Rattle.order.specs.Order.{class_of}
use Rattle.cycles.specs.Spread.{Reached}
use Rattle.cycles.proofs.lowest_on_cycle.Given as goal

abbrev pub invariant-loop-steps : goal.invariant-loop-steps
invariant-loop-steps l = (l.found ≡ l.n) × Reached (class_of l.steps) l.net.net l.s l.marks l.marked

abbrev pub decreases-loop-steps : goal.decreases-loop-steps
decreases-loop-steps l = size l.net.net - l.marked

abbrev pub invariant-search : goal.invariant-search
invariant-search l = (l.found ≡ l.n) × Passed (reaches_itself (class_of l.steps) l.net.net) l.s
