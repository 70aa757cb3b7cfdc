-- The loop's invariant: the first k fields stand at the front, and the offset behind them is carried.
use Rattle.saving.specs.Encoded.{Carrying}
use Rattle.saving.proofs.write_circuit.Given as goal

abbrev pub invariant-loop-k : goal.invariant-loop-k
invariant-loop-k l = Carrying l.net.net l.initial.out l.k l.at l.out
