-- No port passed owes.
use Rattle.lists.proofs.SearchLaws.{Passed}
use Rattle.leads.specs.Debts.{owing_by}
use Rattle.leads.proofs.check_ports.Given as goal

abbrev pub invariant-loop-v : goal.invariant-loop-v
invariant-loop-v l = Passed (owing_by l.net.net l.base l.leads) l.v
