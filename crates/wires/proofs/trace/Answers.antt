-- A node that does not wait is traced already.
use Rattle.wires.specs.TracedLaws.{traced_at}
use Rattle.wires.proofs.trace.Goals as goal

pub returns-else-waits-clause-more : goal.returns-else-waits-clause-more
returns-else-waits-clause-more c = record {
  here = traced_at _ _ c.requires.half c.requires.node c.bounds.ensures.nodes c.if-waits.false;
  still = λ s t. t;
}
