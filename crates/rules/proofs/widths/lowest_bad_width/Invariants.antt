-- The loop's invariant: no node passed is bad.
use Rattle.lists.proofs.SearchLaws.{Passed}
use Rattle.netlist.specs.Verdict.{bad_width}
use Rattle.rules.proofs.widths.lowest_bad_width.Given as goal

abbrev pub invariant-loop-v : goal.invariant-loop-v
invariant-loop-v l = Passed (bad_width l.net.net) l.v
