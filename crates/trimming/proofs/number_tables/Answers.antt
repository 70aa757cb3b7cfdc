use native.Mathlib.Omega.{arith}
use Rattle.trimming.specs.Numbers.{count_few}
use Rattle.trimming.proofs.number_tables.Goals as goal

pub overflow_add-count : goal.overflow_add-count
overflow_add-count c = omega (arith, count_few c.loop-m.invariant)
