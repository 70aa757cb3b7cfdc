-- The rewriter's checks in order, of either mode: a test of the whole netlist (11), one of its ports (12), one of the rewritten netlist (13). Each refuses if and only
-- if its test says so and those before it do not, 12 at the lowest port. Assumes nothing.
use Rattle.std.specs.Prelude.{◌≡◌, ◌↔◌, ◌⊎◌, Bool, true, false, ℕ, ◌+◌, ◌<◌, ltb}
use Rattle.std.proofs.Common.{sym, ap, ◌∙◌, subst, inl, inr, ⊎_elim, zero-le, not-suc-le-zero, arith, lit<, lt-ltb}
use mathlib.Core.List.{List, [], ◌∷◌}
use Rattle.lists.specs.Lists.{lowest}
use Rattle.lists.proofs.BelowLaws.{true_or_false, Lowest, lowest_from_is}
use Rattle.lists.proofs.SearchLaws.{lowest_here}
use Rattle.netlist.proofs.Places.{skip}
use Rattle.netlist.proofs.VerdictLaws.{refuses_not}
use Rattle.netlist.specs.Verdict.{Verdict, Fine, Refuses, Stage, verdict, of_whole, at_lowest}

-- ---- one check: it refuses at the lowest place that it finds bad

module _ (c : Stage) (l : List Stage) where
  refuses_at : ltb (lowest c.over c.bad) c.over ≡ true → verdict (c ∷ l) ≡ Refuses c.number (c.place (lowest c.over c.bad))
  unfolding verdict
  refuses_at t = rw (t, verdict)

  refuses_first : (v : ℕ) → v < c.over → c.bad v ≡ true → ((u : ℕ) → u < v → c.bad u ≡ false) → verdict (c ∷ l) ≡ Refuses c.number (c.place v)
  refuses_first v h t first =
      let e : v ≡ lowest c.over c.bad = lowest_here c.over c.bad v first h t in
      refuses_at (lt-ltb (lowest c.over c.bad) c.over (omega arith)) ∙ ap (λ (k : ℕ). Refuses c.number (c.place k)) (sym e)

-- the lowest of the first n that a test finds
pub record LowestAt (n : ℕ) (bad : ℕ → Bool) (v : ℕ) : Type 0 where
  pub inside : v < n
  pub found : bad v ≡ true
  pub none_lower : (u : ℕ) → u < v → bad u ≡ false

abbrev pub NoneAt : ℕ → (ℕ → Bool) → Type 0
NoneAt n bad = (v : ℕ) → v < n → bad v ≡ false

pub search : (n : ℕ) (bad : ℕ → Bool) → ((v : ℕ) × LowestAt n bad v) ⊎ NoneAt n bad
search n bad = by_lowest (lowest_from_is bad 0 n)
  where
    by_lowest : Lowest bad 0 (0 + n) (lowest n bad) → ((v : ℕ) × LowestAt n bad v) ⊎ NoneAt n bad
    by_lowest r =
        ⊎_elim (λ e. inr (λ v h. r.none_before v zero-le (omega arith)))
        (λ (h, t). inl (lowest n bad, record { inside = omega arith; found = t; none_lower = λ u l. r.none_before u zero-le l }))
        r.found

-- verdicts with different numbers differ
apart : (v : Verdict) (a b p q : ℕ) → (a ≡ b → ⊥) → v ≡ Refuses a p → v ≡ Refuses b q → ⊥
apart v a b p q h e f = h (let k : a ≡ b = cc in k)

fine_apart : (v : Verdict) (a p : ℕ) → v ≡ Fine → v ≡ Refuses a p → ⊥
fine_apart v a p e f = refuses_not (sym f ∙ e)

-- ---- the three checks in order

module _ (closed : Bool) (n : ℕ) (owing : ℕ → Bool) (over : Bool) where
  abbrev pub debt_checks : List Stage
  debt_checks = of_whole 11 (λ v. closed) ∷ at_lowest 12 n owing ∷ of_whole 13 (λ v. over) ∷ []

  -- what they say, and why
  data Judged : Type 0 where
    closed_debt_lem : closed ≡ true → verdict debt_checks ≡ Refuses 11 65535 → Judged
    port_debt_lem : closed ≡ false → (v : ℕ) → LowestAt n owing v → verdict debt_checks ≡ Refuses 12 v → Judged
    over_grown : closed ≡ false → NoneAt n owing → over ≡ true → verdict debt_checks ≡ Refuses 13 65535 → Judged
    nothing : closed ≡ false → NoneAt n owing → over ≡ false → verdict debt_checks ≡ Fine → Judged

  says_11 : closed ≡ true → verdict debt_checks ≡ Refuses 11 65535
  says_11 t = refuses_first _ _ 0 (lit< tt) t (λ u h. absurd (not-suc-le-zero h))

  past_11 : closed ≡ false → verdict debt_checks ≡ verdict (at_lowest 12 n owing ∷ of_whole 13 (λ v. over) ∷ [])
  past_11 t = skip _ _ (λ v h. t)

  says_12 : closed ≡ false → (v : ℕ) → LowestAt n owing v → verdict debt_checks ≡ Refuses 12 v
  says_12 t v r = past_11 t ∙ refuses_first _ _ v r.inside r.found r.none_lower

  past_12 : closed ≡ false → NoneAt n owing → verdict debt_checks ≡ verdict (of_whole 13 (λ v. over) ∷ [])
  past_12 t none = past_11 t ∙ skip _ _ none

  says_13 : closed ≡ false → NoneAt n owing → over ≡ true → verdict debt_checks ≡ Refuses 13 65535
  says_13 t none g = past_12 t none ∙ refuses_first _ _ 0 (lit< tt) g (λ u h. absurd (not-suc-le-zero h))

  says_fine : closed ≡ false → NoneAt n owing → over ≡ false → verdict debt_checks ≡ Fine
  unfolding verdict
  says_fine t none g = past_12 t none ∙ skip (of_whole 13 (λ v. over)) [] (λ v h. g)

  judged : Judged
  judged =
      ⊎_elim (λ t. closed_debt_lem t (says_11 t))
      (λ t. ⊎_elim (λ (v, r). port_debt_lem t v r (says_12 t v r))
      (λ none. ⊎_elim (λ g. over_grown t none g (says_13 t none g)) (λ g. nothing t none g (says_fine t none g)) (true_or_false over))
      (search n owing))
      (true_or_false closed)

  pub says_11_iff : verdict debt_checks ≡ Refuses 11 65535 ↔ (closed ≡ true)
  says_11_iff = (λ e. told e judged, says_11)
    where
      told : verdict debt_checks ≡ Refuses 11 65535 → Judged → closed ≡ true
      told e (closed_debt_lem t f) = t
      told e (port_debt_lem t v r f) = absurd (apart (verdict debt_checks) 11 12 65535 v (λ k. omega arith) e f)
      told e (over_grown t none g f) = absurd (apart (verdict debt_checks) 11 13 65535 65535 (λ k. omega arith) e f)
      told e (nothing t none g f) = absurd (fine_apart (verdict debt_checks) 11 65535 f e)

  pub says_12_iff : (v : ℕ) → verdict debt_checks ≡ Refuses 12 v ↔ ((closed ≡ false) × LowestAt n owing v)
  says_12_iff v = (λ e. told e judged, λ (t, r). says_12 t v r)
    where
      told : verdict debt_checks ≡ Refuses 12 v → Judged → (closed ≡ false) × LowestAt n owing v
      told e (closed_debt_lem t f) = absurd (apart (verdict debt_checks) 12 11 v 65535 (λ k. omega arith) e f)
      told e (port_debt_lem t u r f) = (t, subst (LowestAt n owing) (let k : u ≡ v = cc in k) r)
      told e (over_grown t none g f) = absurd (apart (verdict debt_checks) 12 13 v 65535 (λ k. omega arith) e f)
      told e (nothing t none g f) = absurd (fine_apart (verdict debt_checks) 12 v f e)

  pub says_13_iff : verdict debt_checks ≡ Refuses 13 65535 ↔ ((closed ≡ false) × NoneAt n owing × (over ≡ true))
  says_13_iff = (λ e. told e judged, λ (t, none, g). says_13 t none g)
    where
      told : verdict debt_checks ≡ Refuses 13 65535 → Judged → (closed ≡ false) × NoneAt n owing × (over ≡ true)
      told e (closed_debt_lem t f) = absurd (apart (verdict debt_checks) 13 11 65535 65535 (λ k. omega arith) e f)
      told e (port_debt_lem t v r f) = absurd (apart (verdict debt_checks) 13 12 65535 v (λ k. omega arith) e f)
      told e (over_grown t none g f) = (t, none, g)
      told e (nothing t none g f) = absurd (fine_apart (verdict debt_checks) 13 65535 f e)

  pub says_fine_only : verdict debt_checks ≡ Fine → (closed ≡ false) × NoneAt n owing × (over ≡ false)
  says_fine_only e = told judged
    where
      told : Judged → (closed ≡ false) × NoneAt n owing × (over ≡ false)
      told (closed_debt_lem t f) = absurd (fine_apart (verdict debt_checks) 11 65535 e f)
      told (port_debt_lem t v r f) = absurd (fine_apart (verdict debt_checks) 12 v e f)
      told (over_grown t none g f) = absurd (fine_apart (verdict debt_checks) 13 65535 e f)
      told (nothing t none g f) = (t, none, g)
