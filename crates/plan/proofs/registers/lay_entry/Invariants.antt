use mathlib.Core.Path.{◌≡◌}
use Prim.Native.Nat.{◌+◌, ◌*◌}
use Rattle.plan.specs.Areas.{firsts_in}
use Rattle.plan.specs.Retiming.{LaysTo}
use Rattle.plan.proofs.registers.lay_entry.Given as goal

abbrev pub invariant-loop-p : goal.invariant-loop-p
invariant-loop-p l = record {
  firsts : firsts_in l.plan ≡ firsts_in l.initial.plan;
  laid : LaysTo l.from l.plan (3 * l.e + l.p) l.total;
}
