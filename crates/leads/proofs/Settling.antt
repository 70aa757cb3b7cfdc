-- A pass that raised nothing, a number over the bound, and what 11 and 12 then say, over plain values. Assumes nothing.
use mathlib.Core.Path.{◌≡◌, sym, ap, subst, ◌∙◌}
use mathlib.Core.Logic.{◌⊎◌, inl, inr}
use mathlib.Core.Bool.{Bool, true, false, ◌&&◌, true≢false, false≢true}
use mathlib.Core.List.{List, [], ◌∷◌, ◌++◌}
use Prim.Native.Nat.{ℕ, ◌+◌, ◌≤◌, ◌<◌, zero-le}
use native.Mathlib.Omega.{arith}
use lib.ListN.{length, get_or, get_or-append}
use lib.Dec.{ltb}
use borrow.Author.Tests.{ltb-true, ltb-false}
use Rattle.lists.specs.Lists.{any_below, lowest}
use Rattle.lists.proofs.BelowLaws.{any_below_elim, any_below_none, lowest_from_is}
use Rattle.lists.proofs.SearchLaws.{Passed, lowest_here, lowest_past, lowest_bound}
use Rattle.netlist.specs.Net.{Net, size, element_at, is_input, Sourced}
use Rattle.netlist.specs.Verdict.{Fine, Refuses, at_lowest, of_whole, verdict}
use Rattle.netlist.proofs.Places.{skip, refuses}
use Rattle.retiming.specs.AtMostRoms.{rom_count}
use Rattle.retiming.specs.Rewrite.{Timing}
use Rattle.retiming.specs.LateLeads.{origin, closed_debt_to, owing_port_to}
use Rattle.retiming.specs.declared.Mode.{Mode}
use Rattle.retiming.specs.Modes.{mode_ends, mode_closed, mode_owing}
use Rattle.leads.specs.Debts.{owing_by, debts_verdict}
use Rattle.leads.specs.Progress.{Walked, Quiet, Progress}
use Rattle.leads.specs.Settled.{LeadsIn, Found, Outcome, settled, debt, quiet_settled, over_debt}
use Rattle.leads.proofs.ByMode.{origin_is, closed_by, owing_to}

module _ (N : Net) (sourced : Sourced N) {bound n : ℕ} (z : n ≡ size N) {ends : ℕ → Bool} {L : List ℕ} (t : Walked N ends L) where
  pub over_found : bound ≡ origin N + rom_count N → any_below n (λ v. ltb bound (get_or L v 0)) ≡ true → Outcome N ends L false
  over_found count e =
      let r = any_below_elim n (λ v. ltb bound (get_or L v 0)) e in
      over_debt N sourced t count r.0 (omega (arith, r.1)) (ltb-true bound (get_or L r.0 0) r.2)

  pub none_over : {M : List ℕ} {k : ℕ} → any_below n (λ v. ltb bound (get_or L v 0)) ≡ false → Progress N bound L M k (Quiet N bound (size N)) → k ≡ 0 → Outcome N ends M true
  none_over {M} {k} e s q = told (s.still q)
    where
      low : (v : ℕ) → v < size N → get_or L v 0 ≤ bound
      low v l = ltb-false bound (get_or L v 0) (any_below_none n (λ u. ltb bound (get_or L u 0)) e v (omega arith))

      told : (M ≡ L) × Quiet N bound (size N) L → Outcome N ends M true
      told (p, f) = subst (λ (l : List ℕ). Outcome N ends l true) (sym p) (quiet_settled N sourced t f low)

-- ---- 11 and 12

-- a search for another test that tells the same
lowest_same : (n : ℕ) {q r : ℕ → Bool} → ((v : ℕ) → v < n → q v ≡ r v) → lowest n q ≡ lowest n r
lowest_same n {q} {r} same = found (lowest_from_is q 0 n).found
  where
    passed : Passed r (lowest n q)
    passed u l = sym (same u (omega (arith, lowest_bound n q))) ∙ (lowest_from_is q 0 n).none_before u zero-le l

    found : (lowest n q ≡ 0 + n) ⊎ ((lowest n q < 0 + n) × (q (lowest n q) ≡ true)) → lowest n q ≡ lowest n r
    found (inl e) = let k : lowest n q ≡ n = omega arith in k ∙ lowest_past n r (subst (Passed r) k passed)
    found (inr e) = let l : lowest n q < n = omega (arith, e.0) in lowest_here n r (lowest n q) passed l (sym (same (lowest n q) l) ∙ e.1)

-- and so a check by it
check-same : (k n : ℕ) {q r : ℕ → Bool} → ((v : ℕ) → v < n → q v ≡ r v) → verdict (at_lowest k n q ∷ []) ≡ verdict (at_lowest k n r ∷ [])
unfolding verdict
check-same k n same = ap (λ (low : ℕ). elim (ltb low n) [ true ↦ Refuses k low | false ↦ Fine ]) (lowest_same n same)

module _ (mode : Mode) (N : Net) where
  closed_says : mode_closed mode N ≡ true → Refuses 11 65535 ≡ debts_verdict mode N
  unfolding debts_verdict verdict
  closed_says d = sym (rw (d, verdict))

  past_11 : mode_closed mode N ≡ false → debts_verdict mode N ≡ verdict (at_lowest 12 (size N) (mode_owing mode N) ∷ [])
  unfolding debts_verdict
  past_11 d = skip (of_whole 11 (λ v. mode_closed mode N)) (at_lowest 12 (size N) (mode_owing mode N) ∷ []) (λ v l. d)

  -- after a search, which gave b
  module _ (sourced : Sourced N) {L : List ℕ} {b : Bool} (o : Outcome N (mode_ends mode N) L b) where
    pub says_11 : b ≡ false → Refuses 11 65535 ≡ debts_verdict mode N
    says_11 e = closed_says (sym (closed_by N sourced mode) ∙ when o e)
      where
        when : {b : Bool} → Outcome N (mode_ends mode N) L b → b ≡ false → closed_debt_to N (mode_ends mode N) ≡ true
        when (settled d f) e = absurd (true≢false e)
        when (debt d) e = d

    module _ (e : b ≡ true) where
      pub now_settled : (mode_closed mode N ≡ false) × Found N (mode_ends mode N) L
      now_settled = when o e
        where
          when : {b : Bool} → Outcome N (mode_ends mode N) L b → b ≡ true → (mode_closed mode N ≡ false) × Found N (mode_ends mode N) L
          when (settled d f) e = (sym (closed_by N sourced mode) ∙ d, f)
          when (debt d) e = absurd (false≢true e)

      owing : (u : ℕ) → u < size N → owing_by N (origin N) L u ≡ mode_owing mode N u
      unfolding owing_by owing_port_to
      owing u l = ap (λ (k : ℕ). is_input (element_at N u) && ltb (origin N) k) (now_settled.1 u l) ∙ owing_to N sourced mode now_settled.0 u l

      -- 12 by the numbers found
      pub ports_say : verdict (at_lowest 12 (size N) (owing_by N (origin N) L) ∷ []) ≡ debts_verdict mode N
      ports_say = check-same 12 (size N) owing ∙ sym (past_11 now_settled.0)

      -- v is the lowest port that owes by the numbers found
      module _ {n v : ℕ} (z : n ≡ size N) (low : v ≡ lowest (size N) (owing_by N (n + 2) L)) where
        lowest_owing : v ≡ lowest (size N) (owing_by N (origin N) L)
        lowest_owing = low ∙ ap (λ (base : ℕ). lowest (size N) (owing_by N base L)) (origin_is N z)

        pub says_12 : v < n → Refuses 12 v ≡ debts_verdict mode N
        says_12 h = sym (refuses 12 (size N) (owing_by N (origin N) L) [] v (sym lowest_owing, omega arith)) ∙ ports_say

        pub says_neither : n ≤ v → Fine ≡ debts_verdict mode N
        unfolding verdict
        says_neither h =
            sym (skip (at_lowest 12 (size N) (owing_by N (origin N) L)) [] (λ u l. (lowest_from_is (owing_by N (origin N) L) 0 (size N)).none_before u zero-le (omega (arith, lowest_owing)))) ∙ ports_say

-- the leads at the front of a list
pub leads_front : (N : Net) (f : Timing) (L M : List ℕ) → size N ≤ length L → LeadsIn N f L → LeadsIn N f (L ++ M)
leads_front N f L M room leads v h = get_or-append L M 0 v (omega arith) ∙ leads v h
