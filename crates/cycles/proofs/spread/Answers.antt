use Rattle.order.specs.Pass.{swept_more}
use Rattle.cycles.proofs.spread.Goals as goal

pub loop-u-preserved : goal.loop-u-preserved
loop-u-preserved c = swept_more c.loop-u.invariant c.touch-k.ensures
