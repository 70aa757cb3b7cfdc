-- Laws of what specs/Rank.antt defines. Assumes nothing.
use Rattle.std.specs.Prelude.{◌≡◌, Bool, false}
use Rattle.std.proofs.Math.Path.{refl, ap}
use Rattle.std.proofs.Common.{sym, ◌∙◌, subst, ⊎_elim, not-suc-le-zero, le_of_suc-le-suc, add-zero}
use Rattle.std.proofs.Math.Bool.{true}
use Prim.Native.Nat.{ℕ, zero, suc, ◌+◌, ◌-◌, ◌≤◌, ◌<◌}
use native.Mathlib.Omega.{arith}
use Rattle.lists.specs.Lists.{one, count_below}
use Rattle.lists.proofs.BelowLaws.{count_below_subset, count_below-le, true_or_false, any_below_intro, any_below_elim, Twice, pigeonhole}
use Rattle.netlist.specs.Net.{Class, Net, size, element_at, source, Sourced, RankedIn}
use Rattle.netlist.specs.Rank.{ReadsIn, Through, once, then, unsettled, rounds, SettlesIn}

-- a rank rules loops out
through_rank : (K : Class) (N : Net) (rank : ℕ → ℕ) → RankedIn K N rank → {u v : ℕ} → Through K N u v → rank u < rank v
unfolding RankedIn
through_rank K N rank ranked {u} {v} (once r) = subst (λ (k : ℕ). rank k < rank v) r.from (ranked v r.operand r.inside r.used)
through_rank K N rank ranked {u} {v} (then {x = x} w r) =
    omega (arith, through_rank K N rank ranked w, subst (λ (k : ℕ). rank k < rank v) r.from (ranked v r.operand r.inside r.used))

pub no_loop : (K : Class) (N : Net) (rank : ℕ → ℕ) → RankedIn K N rank → {v : ℕ} → Through K N v v → ⊥
no_loop K N rank ranked w = omega (arith, through_rank K N rank ranked w)

-- ---- not settled after as many rounds as there are nodes: a loop

record Descent (K : Class) (N : Net) (k v : ℕ) : Type 0 where
  at : ℕ → ℕ
  start : at 0 ≡ v
  each : (i : ℕ) → i < k → ReadsIn K N (at i) (at (suc i))
  inside : (i : ℕ) → i ≤ k → at i < size N

prepend : ℕ → (ℕ → ℕ) → ℕ → ℕ
prepend v f zero = v
prepend v f (suc i) = f i

descent_step : (K : Class) (N : Net) (k v : ℕ) (x : ℕ) → v < size N → ReadsIn K N v x → Descent K N k x → Descent K N (suc k) v
unfolding prepend
descent_step K N k v x h r d = record {
  at = prepend v d.at;
  start = refl;
  each = λ i. elim i as (λ j. j < suc k → ReadsIn K N (prepend v d.at j) (prepend v d.at (suc j))) [
    | zero ↦ λ l. record { operand = r.operand; inside = r.inside; used = r.used; from = r.from ∙ sym d.start }
    | suc j ↦ λ l. d.each j (le_of_suc-le-suc l)
  ];
  inside = λ i. elim i as (λ j. j ≤ suc k → prepend v d.at j < size N) [ zero ↦ λ l. h | suc j ↦ λ l. d.inside j (le_of_suc-le-suc l) ];
}

descent : (K : Class) (N : Net) → Sourced N → (k v : ℕ) → v < size N → unsettled K N k v ≡ true → Descent K N k v
unfolding unsettled Sourced
descent K N sourced zero v h e = record { at = λ i. v; start = refl; each = λ i l. absurd (not-suc-le-zero l); inside = λ i l. h }
descent K N sourced (suc k) v h e =
    let r = any_below_elim (K.of (element_at N v)) (λ p. unsettled K N k (source N v p)) e in
    descent_step K N k v (source N v r.0) h (record { operand = r.0; inside = h; used = r.1; from = refl })
    (descent K N sourced k (source N v r.0) (sourced v r.0 h (omega (arith, r.1, K.few (element_at N v)))) r.2)

climb : (K : Class) (N : Net) (k v : ℕ) (d : Descent K N k v) (m i j : ℕ) → j ≡ i + suc m → j ≤ k → Through K N (d.at j) (d.at i)
climb K N k v d zero i j e l =
    let next : suc i ≡ j = omega arith in
    once (subst (λ (n : ℕ). ReadsIn K N (d.at i) (d.at n)) next (d.each i (omega arith)))
climb K N k v d (suc m) i j e l = then (climb K N k v d m (suc i) j (omega arith) l) (d.each i (omega arith))

closed : (K : Class) (N : Net) (k v : ℕ) (d : Descent K N k v) → Twice d.at k → (u : ℕ) × Through K N u u
closed K N k v d r = (
  d.at r.first,
  subst (λ (u : ℕ). Through K N u (d.at r.first)) (sym r.alike)
      (climb K N k v d (r.second - suc r.first) r.first r.second (omega (arith, r.apart)) r.within),
)

pub unsettled_loop : (K : Class) (N : Net) → Sourced N → (v : ℕ) → v < size N → unsettled K N (size N) v ≡ true → (u : ℕ) × Through K N u u
unsettled_loop K N sourced v h e =
    let d = descent K N sourced (size N) v h e in
    closed K N (size N) v d (pigeonhole (size N) d.at d.inside)

-- ---- all settled: a rank

count_below_front : (q : ℕ → Bool) (n : ℕ) → count_below q (suc n) ≡ one (q 0) + count_below (λ k. q (suc k)) n
count_below_front q zero = omega arith
count_below_front q (suc n) = omega (arith, count_below_front q n)

rounds_at : (K : Class) (N : Net) (n : ℕ) (v : ℕ) → unsettled K N (suc n) v ≡ false → count_below (λ k. unsettled K N (suc k) v) (suc n) ≡ count_below (λ k. unsettled K N (suc k) v) n
rounds_at K N n v e = rw e (add-zero _)

module _ (K : Class) (N : Net) (sourced : Sourced N) (settles : SettlesIn K N) where
  falls : (n v p : ℕ) → p < K.of (element_at N v) → unsettled K N (suc n) (source N v p) ≡ false
      → count_below (λ k. unsettled K N (suc k) (source N v p)) (suc n) < count_below (λ k. unsettled K N (suc k) v) (suc n)
  unfolding unsettled
  falls n v p q z =
      let up : (k : ℕ) → unsettled K N k (source N v p) ≡ true → unsettled K N (suc k) v ≡ true = λ k t. any_below_intro (K.of (element_at N v)) (λ j. unsettled K N k (source N v j)) p q t in
      omega (
        arith,
        rounds_at K N n (source N v p) z,
        count_below_front (λ k. unsettled K N (suc k) v) n,
        ap one (up 0 refl),
        count_below_subset (λ k. unsettled K N (suc k) (source N v p)) (λ k. unsettled K N (suc (suc k)) v) n (λ k l. up (suc k)),
      )

  pub rounds_ranked : RankedIn K N (rounds K N)
  unfolding RankedIn rounds SettlesIn Sourced
  rounds_ranked v p h q = go (size N) refl
    where
      go : (n : ℕ) → size N ≡ n → count_below (λ k. unsettled K N (suc k) (source N v p)) (size N) < count_below (λ k. unsettled K N (suc k) v) (size N)
      go zero z = absurd (not-suc-le-zero (subst (λ (n : ℕ). v < n) z h))
      go (suc n) z = rw z (falls n v p q (rw z at (settles (source N v p) (sourced v p h (omega (arith, K.few (element_at N v)))))))

  pub rounds_small : (v : ℕ) → v < size N → rounds K N v < size N
  unfolding rounds SettlesIn
  rounds_small v h = go (size N) refl
    where
      go : (n : ℕ) → size N ≡ n → count_below (λ k. unsettled K N (suc k) v) (size N) < size N
      go zero z = absurd (not-suc-le-zero (subst (λ (n : ℕ). v < n) z h))
      go (suc n) z = rw z (omega (arith, rounds_at K N n v (rw z at (settles v h)), count_below-le (λ k. unsettled K N (suc k) v) n))

-- ---- fewer rounds leave no fewer unsettled

module _ (K : Class) (N : Net) where
  pub unsettled_step : (k v p : ℕ) → p < K.of (element_at N v) → unsettled K N k (source N v p) ≡ true → unsettled K N (suc k) v ≡ true
  unfolding unsettled
  unsettled_step k v p q t = any_below_intro (K.of (element_at N v)) (λ j. unsettled K N k (source N v j)) p q t

  pub unsettled_less : (k v : ℕ) → unsettled K N (suc k) v ≡ true → unsettled K N k v ≡ true
  unfolding unsettled
  unsettled_less zero v e = refl
  unsettled_less (suc k) v e =
      let r = any_below_elim (K.of (element_at N v)) (λ p. unsettled K N (suc k) (source N v p)) e in
      unsettled_step k v r.0 r.1 (unsettled_less k (source N v r.0) r.2)

-- ---- no loop, a rank and settling are one

pub loopless_settles : (K : Class) (N : Net) → Sourced N → ((u : ℕ) → Through K N u u → ⊥) → SettlesIn K N
unfolding SettlesIn
loopless_settles K N sourced none v h = ⊎_elim (λ t. let r = unsettled_loop K N sourced v h t in absurd (none r.0 r.1)) (λ t. t) (true_or_false (unsettled K N (size N) v))

pub ranked_settles : (K : Class) (N : Net) (rank : ℕ → ℕ) → Sourced N → RankedIn K N rank → SettlesIn K N
ranked_settles K N rank sourced ranked = loopless_settles K N sourced (λ u w. no_loop K N rank ranked w)
