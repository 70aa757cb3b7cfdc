use Rattle.order.specs.Pass.{swept_more}
use Rattle.order.proofs.sweep.Goals as goal

pub loop-v-preserved : goal.loop-v-preserved
loop-v-preserved c = swept_more c.loop-v.invariant c.place-k.ensures
