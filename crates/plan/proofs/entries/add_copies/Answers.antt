-- The loop's invariant: the words that the wires before k want have their entries, and k is the next wire, or there is none.
use mathlib.Core.Path.{◌≡◌, refl, sym, subst, ◌∙◌}
use Prim.Native.Nat.{ℕ, ◌+◌, ◌-◌, ◌<◌}
use native.Mathlib.Omega.{arith}
use mathlib.Core.Logic.{⊎_elim}
use lib.ListN.{get_or}
use Rattle.lists.proofs.BelowLaws.{lt_or_le}
use Rattle.lists.proofs.Sections.{section-read}
use Rattle.wiring.specs.Wiring.{ends_in, clocks_in}
use Rattle.wiring.specs.Links.{From}
use Rattle.plan.specs.EntriesLaws.{adds_none, adds_more, adds_to}
use Rattle.plan.proofs.entries.add_copies.Goals as goal

pub loop-k-init : goal.loop-k-init
loop-k-init c =
    let f = c.requires.chained.start in
    record {
      grows = omega arith;
      here = λ l. ((f.here l).1, adds_to c.args.head adds_none f (omega arith) (omega arith) (omega arith));
      done = λ l. adds_to c.args.count adds_none f (omega arith) l (omega arith);
      late = refl;
      firsts = refl;
    }

pub add_copy-next-requires-clause-count : goal.add_copy-next-requires-clause-count
add_copy-next-requires-clause-count c = omega (arith, (c.loop-k.invariant.here c.loop-k-test.true).1.little)

pub loop-k-smaller : goal.loop-k-smaller
loop-k-smaller c =
    let l = c.loop-k in
    let h = c.loop-k-test.true in
    let k : ℕ = get_or c.args.wires.now (6144 + l.k) 0 in
    let n : k ≡ get_or (clocks_in c.args.wires.now) l.k 0 = sym (section-read 6144 3072 c.args.wires.now l.k (omega (arith, h))) in
    let f = c.requires.chained.step l.k h (l.invariant.here h).0 in
    let falls : Type 0 = c.args.count - k < c.args.count - l.k in
    ⊎_elim {C = falls} (λ g. omega (arith, n, (f.here (omega (arith, n, g))).0)) (λ g. omega (arith, g, h)) (lt_or_le k c.args.count)

pub loop-k-preserved : goal.loop-k-preserved
loop-k-preserved c =
    let l = c.loop-k in
    let i = l.invariant in
    let h = c.loop-k-test.true in
    let r = c.add_copy-next.ensures in
    let k : ℕ = get_or c.args.wires.now (6144 + l.k) 0 in
    let n : get_or (clocks_in c.args.wires.now) l.k 0 ≡ k = section-read 6144 3072 c.args.wires.now l.k (omega (arith, h)) in
    let f = subst (From (ends_in c.args.wires.now) c.args.count c.args.u (l.k + 1)) n (c.requires.chained.step l.k h (i.here h).0) in
    let t = adds_more (i.here h).1 (i.here h).0 refl r.adds in
    record {
      grows = omega (arith, i.grows, r.adds.grows);
      here = λ g. ((f.here g).1, adds_to k t f (f.here g).0 (omega arith) (omega arith));
      done = λ g. adds_to c.args.count t f (omega (arith, h)) g (omega arith);
      late = r.late ∙ i.late;
      firsts = r.firsts ∙ i.firsts;
    }
