use mathlib.Core.Path.{◌≡◌}
use lib.ListN.{length}
use Rattle.plan.specs.Areas.{owners_in, words_in, late_in, firsts_in, sources_in}
use Rattle.plan.specs.Registers.{behind, PutsTo}
use Rattle.plan.proofs.registers.put_registers.Given as goal

abbrev pub invariant-loop-t : goal.invariant-loop-t
invariant-loop-t l = record {
  long : length l.plan ≡ 7168;
  reads : l.before ≡ behind l.from l.start l.t;
  puts : PutsTo l.s l.from l.lead l.origin l.count l.start l.t (owners_in l.initial.plan) (late_in l.initial.plan) (sources_in l.initial.plan) (owners_in l.plan) (late_in l.plan) (sources_in l.plan);
  words : words_in l.plan ≡ words_in l.initial.plan;
  firsts : firsts_in l.plan ≡ firsts_in l.initial.plan;
}
