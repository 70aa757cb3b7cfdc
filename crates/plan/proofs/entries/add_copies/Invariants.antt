use mathlib.Core.Path.{◌≡◌}
use Prim.Native.Nat.{◌-◌, ◌≤◌, ◌<◌}
use lib.ListN.{get_or}
use Rattle.wiring.specs.Wiring.{ends_in}
use Rattle.plan.specs.Areas.{owners_in, words_in, late_in, firsts_in}
use Rattle.plan.specs.Entries.{AddsAll}
use Rattle.plan.proofs.entries.add_copies.Given as goal

abbrev pub invariant-loop-k : goal.invariant-loop-k
invariant-loop-k l = record {
  grows : l.first ≤ l.next;
  here : l.k < l.count → (get_or (ends_in l.wires) l.k 0 ≡ l.u) × AddsAll l.u l.first l.k l.next (ends_in l.wires) l.copied (owners_in l.initial.plan) (words_in l.initial.plan) (owners_in l.plan) (words_in l.plan);
  done : l.count ≤ l.k → AddsAll l.u l.first l.count l.next (ends_in l.wires) l.copied (owners_in l.initial.plan) (words_in l.initial.plan) (owners_in l.plan) (words_in l.plan);
  late : late_in l.plan ≡ late_in l.initial.plan;
  firsts : firsts_in l.plan ≡ firsts_in l.initial.plan;
}

abbrev pub decreases-loop-k : goal.decreases-loop-k
decreases-loop-k l = l.count - l.k
