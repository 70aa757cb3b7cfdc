-- The loop's invariant: no place passed has the word.
use mathlib.Core.Path.{sym, ap, ◌∙◌}
use mathlib.Core.Logic.{⊎_elim}
use Prim.Native.Nat.{ℕ, suc, ◌<◌}
use native.Mathlib.Omega.{arith}
use lib.ListN.{get_or}
use Rattle.lists.proofs.BelowLaws.{lt-suc_split}
use Rattle.lists.proofs.Sections.{section-read}
use Rattle.plan.specs.Areas.{words_in}
use Rattle.plan.proofs.entries.find_from.Goals as goal

pub returns-then-plan-i : goal.returns-then-plan-i
returns-then-plan-i c =
    let l = c.loop-i in
    record { after = omega arith; before = omega arith; passed = l.invariant; found = λ h. section-read 1024 1024 c.args.plan.now l.i (omega arith) ∙ c.if-plan-i.true }

pub loop-i-preserved : goal.loop-i-preserved
loop-i-preserved c =
    let l = c.loop-i in
    let plan = c.args.plan.now in
    λ j h k e. ⊎_elim (λ y. l.invariant j h y e) (λ y. c.if-plan-i.false (sym (section-read 1024 1024 plan l.i (omega arith)) ∙ ap (λ (m : ℕ). get_or (words_in plan) m 0) (sym y) ∙ e)) (lt-suc_split (let z : j < suc l.i = omega arith in z))
