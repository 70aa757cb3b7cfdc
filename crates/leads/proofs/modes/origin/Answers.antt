-- Two more than the number of nodes.
use Rattle.leads.proofs.ByMode.{origin_is}
use Rattle.leads.proofs.modes.origin.Goals as goal

pub returns : goal.returns
returns c = origin_is c.args.net.now.net c.node_count.ensures.count
