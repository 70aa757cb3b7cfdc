use Rattle.retiming.specs.Rewrite.{passed}
use Rattle.wires.specs.TracedLaws.{Back}
use Rattle.wires.proofs.wire_of.Given as goal

abbrev pub invariant-loop-u : goal.invariant-loop-u
invariant-loop-u l = Back l.net.net l.v l.u l.count

abbrev pub decreases-loop-u : goal.decreases-loop-u
decreases-loop-u l = passed l.net.net l.u
