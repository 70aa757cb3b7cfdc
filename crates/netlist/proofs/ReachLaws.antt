-- A node reaches itself through a class just where the computed test says so. Assumes nothing.
use Rattle.std.specs.Prelude.{◌≡◌, ◌↔◌, ◌⊎◌, true, ◌||◌}
use Rattle.std.proofs.Math.Path.{refl}
use Rattle.std.proofs.Common.{sym, ◌∙◌, subst, true≢false, arith}
use Rattle.std.proofs.Math.Logic.{inl, inr, ⊎_elim}
use Rattle.std.proofs.Math.Bool.{Bool, false, not}
use Prim.Native.Nat.{ℕ, zero, suc, ◌<◌}
use Rattle.std.proofs.Math.ListN.{get_or}
use Rattle.std.proofs.Math.Dec.{eqb}
use Rattle.lists.specs.Lists.{any_below, all_below, count_below}
use Rattle.lists.proofs.BelowLaws.{true_or_false, eqb-true, eqb_self, any_below_intro, any_below_elim, all_below_elim, all_below_fails, get_or_listed, count_below-more, count_below-le}
use Rattle.netlist.specs.Net.{Class, Net, size, element_at, source, Sourced}
use Rattle.netlist.specs.Reach.{reached_first, reached_next, reached_after, reaches_itself}
use Rattle.netlist.specs.Rank.{ReadsIn, Through, once, then}

or_cases : (a b : Bool) → (a || b) ≡ true → (a ≡ true) ⊎ (b ≡ true)
or_cases true b e = inl refl
or_cases false b e = inr e

implies_fails : (a b : Bool) → (not a || b) ≡ false → (a ≡ true) × (b ≡ false)
implies_fails true b e = (refl, e)
implies_fails false b e = absurd (true≢false e)

module _ (K : Class) (N : Net) (v : ℕ) where
  reached : ℕ → ℕ → Bool
  reached k u = get_or (reached_after K N v k) u false

  first_is : (u : ℕ) → u < size N → reached 0 u ≡ any_below (K.of (element_at N u)) (λ p. eqb (source N u p) v)
  unfolding reached reached_after reached_first
  first_is u h = get_or_listed (λ w. any_below (K.of (element_at N w)) (λ p. eqb (source N w p) v)) (size N) u false h

  next_is : (k u : ℕ) → u < size N → reached (suc k) u ≡ (reached k u || any_below (K.of (element_at N u)) (λ p. reached k (source N u p)))
  unfolding reached reached_after reached_next
  next_is k u h =
      get_or_listed (λ w. get_or (reached_after K N v k) w false || any_below (K.of (element_at N w)) (λ p. get_or (reached_after K N v k) (source N w p) false)) (size N) u false h

  -- ---- what is reached is reached by a chain

  first_through : (u : ℕ) → u < size N → reached 0 u ≡ true → Through K N v u
  first_through u h e =
      let r = any_below_elim (K.of (element_at N u)) (λ p. eqb (source N u p) v) (sym (first_is u h) ∙ e) in
      once (record { operand = r.0; inside = h; used = r.1; from = eqb-true r.2 })

  sound : Sourced N → (k u : ℕ) → u < size N → reached k u ≡ true → Through K N v u
  unfolding Sourced
  sound sourced zero u h e = first_through u h e
  sound sourced (suc k) u h e =
      ⊎_elim (λ t. sound sourced k u h t)
      (λ t. let r = any_below_elim (K.of (element_at N u)) (λ p. reached k (source N u p)) t in
      then (sound sourced k (source N u r.0) (sourced u r.0 h (omega (arith, r.1, K.few (element_at N u)))) r.2) (record { operand = r.0; inside = h; used = r.1; from = refl }))
      (or_cases (reached k u) (any_below (K.of (element_at N u)) (λ p. reached k (source N u p))) (sym (next_is k u h) ∙ e))

  -- ---- and all that a chain reaches is reached: the rounds come to rest

  grows : (k u : ℕ) → u < size N → reached k u ≡ true → reached (suc k) u ≡ true
  grows k u h e = next_is k u h ∙ rw e

  by_operand : (k u p : ℕ) → u < size N → p < K.of (element_at N u) → reached k (source N u p) ≡ true → reached (suc k) u ≡ true
  by_operand k u p h q t = next_is k u h ∙ ⊎_elim (λ a. rw a) (λ a. rw a (any_below_intro (K.of (element_at N u)) (λ j. reached k (source N u j)) p q t)) (true_or_false (reached k u))

  -- one more round adds nothing
  Rests : ℕ → Type 0
  Rests k = (u : ℕ) → u < size N → reached (suc k) u ≡ true → reached k u ≡ true

  rests_on : Sourced N → (k : ℕ) → Rests k → Rests (suc k)
  unfolding Rests Sourced
  rests_on sourced k r u h e =
      ⊎_elim (λ t. t)
      (λ t. let s = any_below_elim (K.of (element_at N u)) (λ p. reached (suc k) (source N u p)) t in
      by_operand k u s.0 h s.1 (r (source N u s.0) (sourced u s.0 h (omega (arith, s.1, K.few (element_at N u)))) s.2))
      (or_cases (reached (suc k) u) (any_below (K.of (element_at N u)) (λ p. reached (suc k) (source N u p))) (sym (next_is (suc k) u h) ∙ e))

  size_of : ℕ → ℕ
  size_of k = count_below (reached k) (size N)

  rests_or_grows : (k : ℕ) → Rests k ⊎ (size_of k < size_of (suc k))
  unfolding Rests size_of
  rests_or_grows k =
      ⊎_elim (λ t. inl (λ u h e. by_test u (all_below_elim (size N) test t u h) e)) (λ t. inr (added (all_below_fails (size N) test t))) (true_or_false (all_below (size N) test))
    where
      test : ℕ → Bool
      test u = not (reached (suc k) u) || reached k u

      by_test : (u : ℕ) → (not (reached (suc k) u) || reached k u) ≡ true → reached (suc k) u ≡ true → reached k u ≡ true
      by_test u t e = subst (λ (b : Bool). (not b || reached k u) ≡ true) e t

      added : (u : ℕ) × (u < size N) × (test u ≡ false) → count_below (reached k) (size N) < count_below (reached (suc k)) (size N)
      added (u, h, t) =
          let k' = implies_fails (reached (suc k) u) (reached k u) t in
          count_below-more (reached k) (reached (suc k)) (size N) u (λ j l e. grows k j l e) h k'.1 k'.0

  comes_to_rest : Sourced N → (k : ℕ) → Rests k ⊎ (k < size_of (suc k))
  comes_to_rest sourced zero = ⊎_elim (λ r. inl r) (λ l. inr (omega arith)) (rests_or_grows 0)
  comes_to_rest sourced (suc k) =
      ⊎_elim (λ r. inl (rests_on sourced k r)) (λ l. ⊎_elim (λ r. inl r) (λ m. inr (omega arith)) (rests_or_grows (suc k))) (comes_to_rest sourced k)

  at_rest : Sourced N → Rests (size N)
  unfolding size_of
  at_rest sourced = ⊎_elim (λ r. r) (λ l. absurd (omega (arith, count_below-le (reached (suc (size N))) (size N)))) (comes_to_rest sourced (size N))

  reads_first : (u : ℕ) → ReadsIn K N u v → reached 0 u ≡ true
  reads_first u r =
      first_is u r.inside ∙ any_below_intro (K.of (element_at N u)) (λ p. eqb (source N u p) v) r.operand r.used (rw r.from (eqb_self v))

  stays : (k u : ℕ) → u < size N → reached 0 u ≡ true → reached k u ≡ true
  stays zero u h e = e
  stays (suc k) u h e = grows k u h (stays k u h e)

  reads_next : Sourced N → (x u : ℕ) → ReadsIn K N u x → reached (size N) x ≡ true → reached (size N) u ≡ true
  unfolding Rests
  reads_next sourced x u r t =
      at_rest sourced u r.inside (by_operand (size N) u r.operand r.inside r.used (subst (λ (k : ℕ). reached (size N) k ≡ true) (sym r.from) t))

complete : (K : Class) (N : Net) → Sourced N → {v u : ℕ} → Through K N v u → reached K N v (size N) u ≡ true
complete K N sourced {v} {u} (once r) = stays K N v (size N) u r.inside (reads_first K N v u r)
complete K N sourced {v} {u} (then {x = x} w r) = reads_next K N v sourced x u r (complete K N sourced w)

-- check 9 (the class within the clock) and check 10 (the registers)
pub reaches_itself_iff : (K : Class) (N : Net) → Sourced N → (v : ℕ) → v < size N → reaches_itself K N v ≡ true ↔ Through K N v v
unfolding reaches_itself reached
reaches_itself_iff K N sourced v h = (λ e. sound K N v sourced (size N) v h e, λ w. complete K N sourced w)
