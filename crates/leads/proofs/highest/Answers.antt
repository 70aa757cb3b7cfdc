-- Asynchronous ROMs are the nodes of their code.
use native.Mathlib.Omega.{arith}
use Rattle.leads.proofs.Relaxing.{rom_count_lem, bound_few}
use Rattle.leads.proofs.highest.Goals as goal

pub returns-clause-bound : goal.returns-clause-bound
returns-clause-bound c = omega (arith, rom_count_lem c.args.net.now.net)

pub returns-clause-few : goal.returns-clause-few
returns-clause-few c = omega (arith, rom_count_lem c.args.net.now.net, bound_few c.args.net.now.net c.bounds.ensures.nodes)
