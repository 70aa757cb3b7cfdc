-- Laws of what specs/Places.antt defines. Assumes nothing.
use Rattle.std.specs.Prelude.{◌≡◌, refl, ◌↔◌, ◌⊎◌, Bool, false, List, [], ◌∷◌, ℕ, ◌+◌, ◌<◌}
use Rattle.std.proofs.Common.{sym, ap, ◌∙◌, inl, inr, zero-le, arith}
use Rattle.std.proofs.Math.Logic.{⊎_elim}
use Rattle.std.proofs.Math.Bool.{true}
use Rattle.std.proofs.lemmas.Bool.{false≢true}
use Rattle.std.proofs.Math.Dec.{ltb}
use borrow.Author.Tests.{lt-ltb, ltb-true}
use Rattle.lists.specs.Lists.{lowest}
use Rattle.lists.proofs.BelowLaws.{true_or_false, lowest_from_is, lowest_all}
use Rattle.lists.proofs.SearchLaws.{lowest_here}
use Rattle.netlist.specs.Verdict.{at_lowest, Stage, verdict, Refuses}
use Rattle.netlist.specs.Places.{LowestOf, Lacks}

-- the search for a test finds it, and nothing else below n
module _ (n : ℕ) (q : ℕ → Bool) (P : ℕ → Type 0) (is : (v : ℕ) → v < n → q v ≡ true ↔ P v) where
  pub lowest_of : (v : ℕ) → (lowest n q ≡ v) × (v < n) ↔ LowestOf n P v
  lowest_of v = (found, finds)
    where
      hit : lowest n q < n → q (lowest n q) ≡ true
      hit l = pick (lowest_from_is q 0 n).found
        where
          pick : (lowest n q ≡ 0 + n) ⊎ ((lowest n q < 0 + n) × (q (lowest n q) ≡ true)) → q (lowest n q) ≡ true
          pick (inl e) = absurd (omega arith)
          pick (inr e) = e.1

      found : (lowest n q ≡ v) × (v < n) → LowestOf n P v
      found (e, l) = record {
        inside = l;
        holds = (is v l).0 (ap q (sym e) ∙ hit (omega arith));
        none_lower = λ u m w. false≢true (sym ((lowest_from_is q 0 n).none_before u zero-le (omega arith)) ∙ (is u (omega arith)).1 w);
      }

      finds : LowestOf n P v → (lowest n q ≡ v) × (v < n)
      finds r = (
        sym (lowest_here n q v (λ u m. ⊎_elim (λ t. absurd (r.none_lower u m ((is u (let i = r.inside in omega arith)).0 t))) (λ t. t) (true_or_false (q u))) r.inside ((is v r.inside).1 r.holds)),
        r.inside,
      )

-- where the test finds what breaks a rule
pub breaks_is : (q : Bool) (R : Type 0) → q ≡ false ↔ R → q ≡ true ↔ (R → ⊥)
breaks_is true R (right, test) = (λ t r. false≢true (sym (test r)), λ b. refl)
breaks_is false R (right, test) = (λ t r. false≢true t, λ b. absurd (b (right refl)))

-- ---- one check among others

pub skip : (s : Stage) (l : List Stage) → ((v : ℕ) → v < s.over → s.bad v ≡ false) → verdict (s ∷ l) ≡ verdict l
unfolding verdict
skip s l h = rw (lowest_all s.over s.bad h, verdict)

module _ (k n : ℕ) (q : ℕ → Bool) (l : List Stage) where
  -- a check that stands first refuses with its lowest
  pub refuses : (v : ℕ) → (lowest n q ≡ v) × (v < n) → verdict (at_lowest k n q ∷ l) ≡ Refuses k v
  unfolding verdict
  refuses v (e, h) = let t : ltb (lowest n q) n ≡ true = lt-ltb (lowest n q) n (omega arith) in rw (t, verdict) (ap (Refuses k) e)

  -- and only so, where no later one has its number
  refused : (v : ℕ) → verdict (at_lowest k n q ∷ l) ≡ Refuses k v → (verdict l ≡ Refuses k v → ⊥) → (lowest n q ≡ v) × (v < n)
  unfolding verdict
  refused v e other =
      ⊎_elim
      (λ (t : ltb (lowest n q) n ≡ true). let f : Refuses k (lowest n q) ≡ Refuses k v = rw (t, verdict) at e in let g : lowest n q ≡ v = cc in (g, omega (arith, ltb-true (lowest n q) n t)))
      (λ (t : ltb (lowest n q) n ≡ false). absurd (other (rw (t, verdict) at e)))
      (true_or_false (ltb (lowest n q) n))

lacks_number : (k v : ℕ) (l : List Stage) → Lacks k l → verdict l ≡ Refuses k v → ⊥
unfolding verdict
lacks_number k v [] h e = let z : ◌≡◌ {A = ℕ} 0 1 = cc in omega arith
lacks_number k v (s ∷ l) h e =
    ⊎_elim
    (λ (t : ltb (lowest s.over s.bad) s.over ≡ true).
    let f : Refuses s.number (s.place (lowest s.over s.bad)) ≡ Refuses k v = rw (t, verdict) at e in h.0 (let g : s.number ≡ k = cc in g))
    (λ (t : ltb (lowest s.over s.bad) s.over ≡ false). lacks_number k v l h.1 (rw (t, verdict) at e))
    (true_or_false (ltb (lowest s.over s.bad) s.over))

-- THE LAW
pub refuses_iff : (k n : ℕ) (q : ℕ → Bool) (l : List Stage) (P : ℕ → Type 0) → ((v : ℕ) → v < n → q v ≡ true ↔ P v) → Lacks k l
    → (v : ℕ) → verdict (at_lowest k n q ∷ l) ≡ Refuses k v ↔ LowestOf n P v
refuses_iff k n q l P is other v = (
  λ e. (lowest_of n q P is v).0 (refused k n q l v e (lacks_number k v l other)),
  λ r. refuses k n q l v ((lowest_of n q P is v).1 r),
)
