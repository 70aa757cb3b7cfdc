-- The loop's invariant: no source passed is the start or marked.
use mathlib.Core.Bool.{◌||◌}
use lib.Dec.{eqb}
use Rattle.lists.proofs.SearchLaws.{Passed}
use Rattle.netlist.specs.Net.{source}
use Rattle.order.specs.Pass.{on}
use Rattle.cycles.proofs.is_touched.Given as goal

abbrev pub invariant-loop-p : goal.invariant-loop-p
invariant-loop-p l = Passed (λ i. eqb (source l.net.net l.u i) l.s || on l.marks (source l.net.net l.u i)) l.p
