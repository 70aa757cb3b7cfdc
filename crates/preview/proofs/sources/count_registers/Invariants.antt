-- The loop's invariant: the registers below v are counted, and `from` is where the last of them comes from.
use Rattle.preview.specs.Counting.{Counting}
use Rattle.preview.proofs.sources.count_registers.Given as goal

abbrev pub invariant-loop-v : goal.invariant-loop-v
invariant-loop-v l = Counting l.net.net l.sources l.initial.list l.list l.v l.from
