-- Laws of what specs/LateBench.antt defines. Assumes nothing.
use Rattle.std.specs.Prelude.{◌≡◌, refl, map}
use Rattle.retiming.specs.Computing.{computing}
use Rattle.retiming.specs.Bench.{output_words, clock, refused, bare, turned, owing}
use Rattle.retiming.specs.LateBench.{late_leads_in, found_by, late_found, late_expected, turned_late, idle, numbered, bare_late, owing_late, late_bench}

-- THE THEOREM
pub late_bench_holds : map late_found late_bench ≡ map late_expected late_bench
unfolding computing late_leads_in output_words found_by late_found late_expected clock refused bare turned owing turned_late idle numbered bare_late owing_late late_bench
late_bench_holds = refl
