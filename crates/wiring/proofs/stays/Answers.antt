-- Every node, or one whose number is above 0.
use Rattle.retiming.proofs.ModeLaws.{stays_plain, stays-late}
use Rattle.wiring.proofs.stays.Goals as goal

pub returns-in-Plain : goal.returns-in-Plain
returns-in-Plain c = stays_plain c.args.net.now.net c.in-Plain.is c.args.v

pub returns-in-Late : goal.returns-in-Late
returns-in-Late c = stays-late c.args.net.now.net c.requires.timed.formed c.in-Late.is c.args.v (c.requires.timed.leads_in c.args.v c.requires.node)
