-- Below the number of nodes the row has it; past it no node stands.
use mathlib.Core.Path.{sym, ap}
use native.Mathlib.Omega.{arith}
use lib.ListN.{get_or-eq_default}
use Rattle.netlist.specs.Net.{nowhere, node_at, width_at}
use Rattle.netlist.specs.declared.Node.{Node}
use Rattle.rules.proofs.widths.width_at.Goals as goal

pub returns-else-u-node_count : goal.returns-else-u-node_count
unfolding width_at node_at
returns-else-u-node_count c = let N = c.args.net.now.net in sym (ap (λ (x : Node). x.width) (get_or-eq_default N.nodes nowhere (omega (arith, c.if-u-node_count.false, c.node_count.ensures.count))))
