-- The loop's invariant: the wires of the first e entries are laid, or it is known that there are too many nodes.
use mathlib.Core.Path.{◌≡◌, ◌∙◌}
use mathlib.Core.Logic.{⊎_elim}
use Prim.Native.Nat.{ℕ, ◌+◌, ◌*◌}
use native.Mathlib.Omega.{arith}
use Rattle.lists.proofs.BelowLaws.{lt_or_le}
use Rattle.plan.specs.Retiming.{net_of}
use Rattle.plan.specs.RegistersLaws.{laid_at, planning_as, laid_all}
use Rattle.plan.proofs.registers.lay_wires.Goals as goal

pub lay_entry-total-requires-clause-planned : goal.lay_entry-total-requires-clause-planned
lay_entry-total-requires-clause-planned c = planning_as c.loop-e.invariant.firsts c.requires.planned

pub loop-e-preserved : goal.loop-e-preserved
loop-e-preserved c =
    let e : ℕ = c.loop-e.e in
    let r = c.lay_entry-total.ensures in
    record {
      firsts = r.firsts ∙ c.loop-e.invariant.firsts;
      exact = λ g. laid_at (let z : 3 * e + 3 ≡ 3 * (e + 1) = omega arith in z) (r.exact g);
      over = r.over;
    }

pub returns : goal.returns
returns c =
    let i = c.loop-e.invariant in
    ⊎_elim i.over (λ g. laid_all (net_of c.args.from.now) _ (i.exact g) (omega (arith, c.loop-e-test.false, c.requires.entries))) (lt_or_le 1024 c.loop-e.total)
