-- The loop's invariant: every table passed is read.
use Rattle.lists.proofs.SearchLaws.{Passed}
use Rattle.netlist.specs.Verdict.{unread_table}
use Rattle.rules.proofs.tables.lowest_unmarked.Given as goal

abbrev pub invariant-loop-m : goal.invariant-loop-m
invariant-loop-m l = Passed (unread_table l.net.net) l.m
