-- The loop's invariant: the first e entries have their gates, or it is known that there are too many nodes.
use Prim.Native.Nat.{◌*◌, ◌≤◌, ◌<◌}
use Rattle.steering.specs.Gating.{GatesFirst, GatesAll}
use Rattle.steering.proofs.pairs.gate_entries.Given as goal

abbrev pub invariant-loop-e : goal.invariant-loop-e
invariant-loop-e l = record {
  gates : l.total ≤ 1024 → GatesFirst l.from l.plan (3 * l.e) l.total;
  over : 1024 < l.total → GatesAll l.from l.plan l.total;
}
