use mathlib.Core.Path.{◌≡◌}
use Prim.Native.Nat.{◌*◌, ◌≤◌, ◌<◌}
use Rattle.plan.specs.Areas.{firsts_in}
use Rattle.plan.specs.Retiming.{LaysTo, LaysAll}
use Rattle.plan.proofs.registers.lay_wires.Given as goal

abbrev pub invariant-loop-e : goal.invariant-loop-e
invariant-loop-e l = record {
  firsts : firsts_in l.plan ≡ firsts_in l.initial.plan;
  exact : l.total ≤ 1024 → LaysTo l.from l.plan (3 * l.e) l.total;
  over : 1024 < l.total → LaysAll l.from l.plan l.total;
}
