use Rattle.netlist.specs.File.{node_bytes}
use Rattle.saving.specs.Firsts.{Summing}
use Rattle.saving.proofs.nodes_length.Given as goal

abbrev pub invariant-loop-v : goal.invariant-loop-v
invariant-loop-v l = Summing node_bytes l.net.net.nodes 12 l.v l.sum
