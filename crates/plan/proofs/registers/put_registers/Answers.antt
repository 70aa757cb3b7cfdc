-- The loop's invariant: the first t registers are put, and the next one reads `before`.
use mathlib.Core.Path.{◌≡◌, refl, ap, subst, ◌∙◌}
use mathlib.Core.List.{List}
use Prim.Native.Nat.{ℕ, suc, ◌+◌, ◌-◌}
use native.Mathlib.Omega.{arith}
use Rattle.wiring.specs.Wiring.{asked_clock}
use Rattle.plan.specs.Areas.{owners_in, late_in, sources_in}
use Rattle.plan.specs.Registers.{PutsTo}
use Rattle.plan.specs.RegistersPut.{puts_next, behind_next}
use Rattle.plan.proofs.registers.put_registers.Goals as goal

pub loop-t-preserved : goal.loop-t-preserved
loop-t-preserved c =
    let a = c.args in
    let l = c.loop-t in
    let i = l.invariant in
    let p = c.put_register in
    record {
      long = p.array_long;
      reads = behind_next a.from a.start l.t;
      puts = puts_next a.plan.now l.plan p.new.plan i.puts i.long refl
          (c.asked_clock-clock.ensures ∙ ap (λ (n : ℕ). asked_clock a.origin (a.lead + n)) (let z : a.count - 1 - l.t ≡ a.count - suc l.t = omega arith in z)) i.reads p.ensures;
      words = p.ensures.words ∙ i.words;
      firsts = p.ensures.firsts ∙ i.firsts;
    }

pub returns-clause-puts : goal.returns-clause-puts
returns-clause-puts c =
    let a = c.args in
    let l : List ℕ = c.loop-t.plan in
    let e : c.loop-t.t ≡ a.count = omega (arith, c.loop-t-test.false) in
    subst (λ (k : ℕ). PutsTo a.s a.from a.lead a.origin a.count a.start k (owners_in a.plan.now) (late_in a.plan.now) (sources_in a.plan.now) (owners_in l) (late_in l) (sources_in l)) e c.loop-t.invariant.puts
