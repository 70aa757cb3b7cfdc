-- The numbers passed are those of the empty walks.
use mathlib.Core.Path.{refl}
use native.Mathlib.Omega.{arith}
use Rattle.leads.specs.Stored.{set_more}
use Rattle.leads.specs.Progress.{walked_first}
use Rattle.leads.proofs.ByMode.{first_is}
use Rattle.leads.proofs.modes.begin.Goals as goal

pub loop-v-preserved : goal.loop-v-preserved
loop-v-preserved c =
    set_more _ (omega arith) refl (first_is _ _ _ c.origin-base.ensures c.may_end.ensures c.number_if.ensures) c.loop-v.invariant

pub returns : goal.returns
returns c = walked_first _ _ (λ v l. c.loop-v.invariant.first v (omega arith))
