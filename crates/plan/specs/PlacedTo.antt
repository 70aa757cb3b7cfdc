-- Entries placed node by node. Assumes nothing.
use Rattle.std.specs.Prelude.{◌≡◌, refl, false, List, ℕ, ◌+◌, ◌≤◌, ◌<◌, length, set}
use Rattle.std.proofs.Common.{sym, subst, ◌∙◌, arith}
use Rattle.lists.proofs.Sections.{section-length}
use Rattle.netlist.specs.Net.{Net}
use Rattle.retiming.specs.Rewrite.{Timing}
use Rattle.plan.specs.Areas.{owners_in, words_in, late_in, firsts_in}
use Rattle.plan.specs.Entries.{Placing, entries_before, Firsts}
use Rattle.plan.specs.EntriesLaws.{first-put, placing_as, entries-left, first_more, firsts_as}

-- what place_entries has done when it comes to node u
pub record PlacedTo (N : Net) (f : Timing) (plan₀ plan : List ℕ) (count u : ℕ) : Type 0 where
  pub long : length plan ≡ length plan₀
  pub few : count ≤ 4096
  pub placing : Placing (owners_in plan) (words_in plan) (entries_before N f u) count
  pub firsts : count ≤ 1024 → Firsts N f (firsts_in plan) u
  pub late : late_in plan ≡ late_in plan₀

pub placed_as : {N : Net} {f : Timing} {plan₀ plan plan' : List ℕ} {count count' u : ℕ} → plan' ≡ plan → count' ≡ count → PlacedTo N f plan₀ plan count u → PlacedTo N f plan₀ plan' count' u
placed_as {N} {f} {plan₀} {plan} {plan'} {count} {count'} {u} p q t = subst (λ (y : List ℕ). PlacedTo N f plan₀ y count' u) (sym p) (subst (λ (k : ℕ). PlacedTo N f plan₀ plan k u) (sym q) t)

-- where its entries begin is put
module _ {N : Net} {f : Timing} {plan₀ plan put : List ℕ} {count u : ℕ} (t : PlacedTo N f plan₀ plan count u) (o : count ≤ 1024) (h : u < 1024) (long : length plan₀ ≡ 7168) (same : length put ≡ length plan)
    (e : put ≡ set plan (3072 + u) count) where
  pub placing_put : Placing (owners_in put) (words_in put) (entries_before N f u) count
  placing_put = let p = first-put plan put u count h e in placing_as p.0 p.1 refl t.placing

  firsts-put : Firsts N f (firsts_in put) (u + 1)
  firsts-put =
      firsts_as N f (first-put plan put u count h e).3
      (first_more N f (firsts_in plan) t.placing o (omega (arith, section-length 3072 1024 plan (omega (arith, t.long)))) (t.firsts o))

  -- it is left out
  pub placed_left : false ≡ f.keeps u → PlacedTo N f plan₀ put count (u + 1)
  placed_left k = record {
    long = same ∙ t.long;
    few = omega arith;
    placing = placing_as refl refl (entries-left N f u k) placing_put;
    firsts = λ g. firsts-put;
    late = (first-put plan put u count h e).2 ∙ t.late;
  }

  -- or its entries are placed
  pub placed_next : {more : List ℕ} {r : ℕ} → length more ≡ length put → r ≤ 4096 → Placing (owners_in more) (words_in more) (entries_before N f (u + 1)) r → late_in more ≡ late_in put → firsts_in more ≡ firsts_in put
      → PlacedTo N f plan₀ more r (u + 1)
  placed_next l b p q s = record {
    long = l ∙ same ∙ t.long;
    few = b;
    placing = p;
    firsts = λ g. firsts_as N f s firsts-put;
    late = q ∙ (first-put plan put u count h e).2 ∙ t.late;
  }
