use Rattle.std.proofs.Common.{◌≡◌, List, ℕ, refl, subst, ◌∙◌, arith}
use Rattle.plan.specs.Areas.{owners_in, late_in, sources_in}
use Rattle.steering.specs.GatesTo.{PutsPairs}
use Rattle.steering.specs.PairsPut.{pairs_next}
use Rattle.steering.proofs.pairs.put_pairs.Goals as goal

pub loop-t-preserved : goal.loop-t-preserved
loop-t-preserved c =
    let l = c.loop-t in
    let p = c.put_pair in
    let e = p.ensures in
    record {
      long = p.array_long;
      pairs = pairs_next c.args.plan.now l.plan p.new.plan l.invariant.pairs l.invariant.long refl refl refl c.gate_after-next.ensures (e.owners, e.late, e.sources, e.words);
      words = e.words ∙ l.invariant.words;
    }

pub returns-clause-pairs : goal.returns-clause-pairs
returns-clause-pairs c =
    let a = c.args in
    let l : List ℕ = c.loop-t.plan in
    let e : c.loop-t.t ≡ a.count = omega (arith, c.loop-t-test.false) in
    subst (λ (k : ℕ). PutsPairs a.s a.head a.clock a.steer a.count a.start k (owners_in a.plan.now) (late_in a.plan.now) (sources_in a.plan.now) (owners_in l) (late_in l) (sources_in l)) e c.loop-t.invariant.pairs
