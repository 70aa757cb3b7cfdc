-- Two sections of the area are written.
use mathlib.Core.Path.{refl}
use Rattle.wires.specs.TracedLaws.{both_put, leads_stay}
use Rattle.wires.proofs.put_wire.Goals as goal

pub returns-clause-written : goal.returns-clause-written
returns-clause-written c = both_put _ _ _ _ _ _ c.requires c.told-timing refl refl

pub returns-clause-leads : goal.returns-clause-leads
returns-clause-leads c = leads_stay _ _ _ _ _ _ c.requires c.told-timing refl refl
