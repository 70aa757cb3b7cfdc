use Rattle.netlist.specs.File.{table_bytes}
use Rattle.saving.specs.Firsts.{Summing}
use Rattle.saving.proofs.tables_length.Given as goal

abbrev pub invariant-loop-k : goal.invariant-loop-k
invariant-loop-k l = Summing table_bytes l.net.net.tables 65538 l.k l.sum
