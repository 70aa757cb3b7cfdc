-- 0, or two more than nodes.
use Rattle.retiming.proofs.ModeLaws.{origin_plain, origin-late}
use Rattle.wiring.proofs.origin_of.Goals as goal

pub returns-in-Plain-clause-origin : goal.returns-in-Plain-clause-origin
returns-in-Plain-clause-origin c = origin_plain c.args.net.now.net c.in-Plain.is

pub returns-in-Late-clause-origin : goal.returns-in-Late-clause-origin
returns-in-Late-clause-origin c = origin-late c.args.net.now.net c.in-Late.is c.node_count.ensures.count
