-- The loop's invariant: the first t pairs are put.
use mathlib.Core.Path.{◌≡◌}
use lib.ListN.{length}
use Rattle.plan.specs.Areas.{owners_in, words_in, late_in, sources_in}
use Rattle.steering.specs.GatesTo.{PutsPairs}
use Rattle.steering.proofs.pairs.put_pairs.Given as goal

abbrev pub invariant-loop-t : goal.invariant-loop-t
invariant-loop-t l = record {
  long : length l.plan ≡ 7168;
  pairs : PutsPairs l.s l.head l.clock l.steer l.count l.start l.t (owners_in l.initial.plan) (late_in l.initial.plan) (sources_in l.initial.plan) (owners_in l.plan) (late_in l.plan) (sources_in l.plan);
  words : words_in l.plan ≡ words_in l.initial.plan;
}
