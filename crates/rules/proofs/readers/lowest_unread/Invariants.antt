-- The loop's invariant: every node passed is read, or a port.
use Rattle.lists.proofs.SearchLaws.{Passed}
use Rattle.netlist.specs.Verdict.{unread}
use Rattle.rules.proofs.readers.lowest_unread.Given as goal

abbrev pub invariant-loop-v : goal.invariant-loop-v
invariant-loop-v l = Passed (unread l.net.net) l.v
