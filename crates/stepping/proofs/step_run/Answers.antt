-- By the code of the first line.
use Rattle.std.proofs.Common.{sym, ◌∙◌, arith}
use Rattle.stepping.specs.StepLaws.{run_coded, last_code, only_join}
use Rattle.stepping.proofs.step_run.Goals as goal

pub run_of-requires-in_default-clause-run : goal.run_of-requires-in_default-clause-run
run_of-requires-in_default-clause-run c =
    let p = c.requires in
    let e = c.part_of.ensures.part in
    run_coded p.run (sym e ∙ only_join (last_code (p.run.lines _ (omega arith) p.some).0 e (λ h. omega arith)) (λ h. omega arith) (λ h. omega arith) (λ h. omega arith) (λ h. omega arith) (λ h. omega arith) (λ h. omega arith) (λ h. omega arith) (λ h. omega arith) (λ h. omega arith) (λ h. omega arith) (λ h. omega arith))
