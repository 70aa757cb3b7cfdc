-- The loop's invariant: no node passed is bad, and what they read is marked.
use mathlib.Core.Path.{◌≡◌}
use lib.ListN.{length}
use Rattle.lists.proofs.SearchLaws.{Passed}
use Rattle.netlist.specs.Verdict.{bad_source}
use Rattle.rules.specs.Marks.{Marks}
use Rattle.rules.proofs.sources.lowest_bad_source.Given as goal

abbrev pub invariant-loop-v : goal.invariant-loop-v
invariant-loop-v l = (length l.marks ≡ length l.initial.marks) × Passed (bad_source l.net.net) l.v × Marks l.net.net l.marks l.v
