-- An order grows node by node; what it cannot hold is on a loop or behind one. Assumes nothing.
use Rattle.std.specs.Prelude.{◌≡◌, Bool, true, false, List, length, get_or, set, replicate, ltb, eqb}
use Rattle.std.proofs.Math.Path.{refl, subst}
use Rattle.std.proofs.Common.{sym, ap, ◌∙◌, ⊎_elim, true≢false, not-suc-le-zero, le_refl, arith, length-set, get_or-set_same, get_or-set_other}
use Prim.Native.Nat.{ℕ, zero, suc, ◌+◌, ◌≤◌, ◌<◌}
use Rattle.std.proofs.lemmas.List.{length-replicate}
use Rattle.lists.specs.Lists.{one, count_below}
use Rattle.lists.proofs.BelowLaws.{true_or_false, lt-suc_split, eqb-true, eqb_differ, all_below_elim, all_below_fails, any_below_intro, count_below-le}
use Rattle.lists.proofs.SearchLaws.{count_one_more, count_less}
use Rattle.netlist.specs.Net.{Class, Net, size, element_at, source, Sourced}
use Rattle.netlist.specs.Rank.{ReadsIn, Through, once, then, unsettled}
use Rattle.netlist.proofs.Rank.{unsettled_loop}
use Rattle.order.specs.Pass.{on, Waiting}
use Rattle.circuit.specs.Order.{Stands, Ordered, Complete}
use Rattle.order.specs.Order.{Placed, ready, Outcome}

pub zeros_off : (m v : ℕ) → ◌≡◌ {A = ℕ} (get_or (replicate m 0) v 0) 0
zeros_off zero v = refl
zeros_off (suc m) zero = refl
zeros_off (suc m) (suc v) = zeros_off m v

pub no_count : (q : ℕ → Bool) (n : ℕ) → ((v : ℕ) → q v ≡ false) → count_below q n ≡ 0
no_count q zero h = refl
no_count q (suc n) h = omega (arith, no_count q n h, ap one (h n))

-- fewer pass than there are: one does not
some_off : (q : ℕ → Bool) (n : ℕ) → count_below q n < n → (v : ℕ) × (v < n) × (q v ≡ false)
some_off q zero h = absurd (not-suc-le-zero h)
some_off q (suc n) h =
    ⊎_elim (λ t. wider (some_off q n (omega (arith, ap one t)))) (λ t. (n, omega arith, t)) (true_or_false (q n))
  where
    wider : (v : ℕ) × (v < n) × (q v ≡ false) → (v : ℕ) × (v < suc n) × (q v ≡ false)
    wider (v, l, e) = (v, omega arith, e)

module _ (K : Class) (N : Net) where
  pub placed_none : (m : ℕ) (order : List ℕ) → size N ≤ m → size N ≤ length order → Placed K N (replicate m 0) order 0
  placed_none m order a b = record {
    flags_room = simp length-replicate a;
    order_room = b;
    ordered = record { inside = λ i l. absurd (not-suc-le-zero l); after = λ i p l. absurd (not-suc-le-zero l) };
    count = no_count (λ v. on (replicate m 0) v) (size N) (λ v. ap (ltb 0) (zeros_off m v));
    stands = λ v l e. absurd (true≢false (sym e ∙ ap (ltb 0) (zeros_off m v)));
  }

  module _ {flags order : List ℕ} {k : ℕ} (t : Placed K N flags order k) where
    -- there is room while a node is not flagged
    pub room : (v : ℕ) → v < size N → on flags v ≡ false → k < size N
    room v l e = subst (λ (m : ℕ). m < size N) t.count (count_less (λ u. on flags u) (size N) v l e)

    pub few : k ≤ size N
    few = subst (λ (m : ℕ). m ≤ size N) t.count (count_below-le (λ u. on flags u) (size N))

    pub full : k ≡ size N → (v : ℕ) → v < size N → on flags v ≡ true
    full e v l = ⊎_elim (λ b. b) (λ b. absurd (let r = room v l b in omega arith)) (true_or_false (on flags v))

    pub none_waiting : k ≡ size N → Waiting (ready K N) flags (size N)
    none_waiting e v l b = absurd (true≢false (sym (full e v l) ∙ b))

    pub complete : k ≡ size N → Complete K N order
    complete e = record {
      ordered = subst (Ordered K N order) e t.ordered;
      all = λ v l. subst (λ (m : ℕ). Stands order m v) e (t.stands v l (full e v l));
    }

  -- ---- one node more

  module _ (flags : List ℕ) (v : ℕ) (h : v < length flags) where
    on_same : on (set flags v 1) v ≡ true
    on_same = ap (ltb 0) (get_or-set_same flags v 1 0 h)

    on_other : (u : ℕ) → (u ≡ v → ⊥) → on (set flags v 1) u ≡ on flags u
    on_other u d = ap (ltb 0) (get_or-set_other flags v u 1 0 d)

  kept_in : (order : List ℕ) (k v i : ℕ) → i < k → get_or (set order k v) i 0 ≡ get_or order i 0
  kept_in order k v i l = get_or-set_other order k i v 0 (λ e. omega arith)

  stands_kept : (order : List ℕ) (k v i u : ℕ) → i ≤ k → Stands order i u → Stands (set order k v) i u
  stands_kept order k v i u l (j, m, e) = (j, m, kept_in order k v j (omega arith) ∙ e)

  -- what is written behind the first k does not count
  module _ {order : List ℕ} {k : ℕ} (o : Ordered K N order k) (v : ℕ) where
    old_inside : (i : ℕ) → i < k → get_or (set order k v) i 0 < size N
    old_inside i a = subst (λ (x : ℕ). x < size N) (sym (kept_in order k v i a)) (o.inside i a)

    old_after : (i p : ℕ) → i < k → p < K.of (element_at N (get_or (set order k v) i 0)) → Stands (set order k v) i (source N (get_or (set order k v) i 0) p)
    old_after i p a q =
        let e = kept_in order k v i a in
        subst (λ (x : ℕ). Stands (set order k v) i (source N x p)) (sym e)
        (stands_kept order k v i (source N (get_or order i 0) p) (omega arith) (o.after i p a (subst (λ (x : ℕ). p < K.of (element_at N x)) e q)))

  module _ {flags order : List ℕ} {k : ℕ} (t : Placed K N flags order k) (sourced : Sourced N) (v : ℕ) (l : v < size N) (off : on flags v ≡ false) (all : ready K N flags v ≡ true) where
    space : k < length order
    space = let r = room t v l off in let o = t.order_room in omega arith

    here : get_or (set order k v) k 0 ≡ v
    here = get_or-set_same order k v 0 space

    inside_more : (i : ℕ) → i < k + 1 → get_or (set order k v) i 0 < size N
    inside_more i m =
        ⊎_elim (λ a. old_inside t.ordered v i a)
        (λ a. subst (λ (x : ℕ). x < size N) (sym (ap (λ (j : ℕ). get_or (set order k v) j 0) a ∙ here)) l)
        (lt-suc_split (let b : i < suc k = omega arith in b))

    new-after : (p : ℕ) → p < K.of (element_at N (get_or (set order k v) k 0)) → Stands (set order k v) k (source N (get_or (set order k v) k 0) p)
    unfolding Sourced
    new-after p q =
        let b : p < K.of (element_at N v) = subst (λ (x : ℕ). p < K.of (element_at N x)) here q in
        subst (λ (x : ℕ). Stands (set order k v) k (source N x p)) (sym here)
        (stands_kept order k v k (source N v p) (omega arith)
        (t.stands (source N v p) (sourced v p l (omega (arith, b, K.few (element_at N v)))) (all_below_elim (K.of (element_at N v)) (λ j. on flags (source N v j)) all p b)))

    after_more : (i p : ℕ) → i < k + 1 → p < K.of (element_at N (get_or (set order k v) i 0)) → Stands (set order k v) i (source N (get_or (set order k v) i 0) p)
    after_more i p m q =
        ⊎_elim (λ a. old_after t.ordered v i p a q)
        (λ a. subst (λ (j : ℕ). p < K.of (element_at N (get_or (set order k v) j 0)) → Stands (set order k v) j (source N (get_or (set order k v) j 0) p)) (sym a) (λ r. new-after p r) q)
        (lt-suc_split (let b : i < suc k = omega arith in b))

    flagged : v < length flags
    flagged = let r = t.flags_room in omega arith

    stands_more : (u : ℕ) → u < size N → on (set flags v 1) u ≡ true → Stands (set order k v) (k + 1) u
    stands_more u m e =
        ⊎_elim (λ a. (k, omega arith, here ∙ sym (eqb-true a)))
        (λ a. widen (t.stands u m (sym (on_other flags v flagged u (λ d. eqb_differ a d)) ∙ e)))
        (true_or_false (eqb u v))
      where
        widen : Stands order k u → Stands (set order k v) (k + 1) u
        widen (j, n, q) = (j, omega arith, kept_in order k v j n ∙ q)

    pub placed_more : Placed K N (set flags v 1) (set order k v) (k + 1)
    placed_more = record {
      flags_room = subst (λ (m : ℕ). size N ≤ m) (sym (length-set flags v 1)) t.flags_room;
      order_room = subst (λ (m : ℕ). size N ≤ m) (sym (length-set order k v)) t.order_room;
      ordered = record { inside = inside_more; after = after_more };
      count = count_one_more (λ u. on flags u) (λ u. on (set flags v 1) u) (size N) v l off (on_same flags v flagged) (λ u m d. sym (on_other flags v flagged u d)) ∙ ap (◌+ 1) t.count;
      stands = stands_more;
    }

  -- ---- nothing in the order is on a loop

  module _ {order : List ℕ} {k : ℕ} (o : Ordered K N order k) where
    before : {u v : ℕ} → Through K N u v → (i : ℕ) → i < k → get_or order i 0 ≡ v → Stands order i u
    before {u} {v} (once r) i l e = read r i l e
      where
        read : ReadsIn K N v u → (i : ℕ) → i < k → get_or order i 0 ≡ v → Stands order i u
        read r i l e = subst (λ (x : ℕ). Stands order i x) (ap (λ (x : ℕ). source N x r.operand) e ∙ r.from) (o.after i r.operand l (subst (λ (x : ℕ). r.operand < K.of (element_at N x)) (sym e) r.used))
    before {u} {v} (then {x = x} w r) i l e = further (subst (λ (y : ℕ). Stands order i y) (ap (λ (y : ℕ). source N y r.operand) e ∙ r.from) (o.after i r.operand l (subst (λ (y : ℕ). r.operand < K.of (element_at N y)) (sym e) r.used))) (λ j m q. before w j m q)
      where
        further : Stands order i x → ((j : ℕ) → j < k → get_or order j 0 ≡ x → Stands order j u) → Stands order i u
        further (j, m, q) f = let (a, b, d) = f j (omega arith) q in (a, omega arith, d)

    no_loop_below : (m i v : ℕ) → i < m → i < k → get_or order i 0 ≡ v → Through K N v v → ⊥
    no_loop_below zero i v a l e w = not-suc-le-zero a
    no_loop_below (suc m) i v a l e w = let r = before w i l e in no_loop_below m r.0 v (omega (arith, r.1)) (omega (arith, r.1)) r.2 w

    pub no_loop_in_order : (v : ℕ) → Stands order k v → Through K N v v → ⊥
    no_loop_in_order v (i, l, e) w = no_loop_below k i v l l e w

  -- ---- and where nothing more can be placed, all that is left shows a loop

  module _ {flags order : List ℕ} {k : ℕ} (t : Placed K N flags order k) (sourced : Sourced N) (rest : Waiting (ready K N) flags (size N)) where
    left-unsettled : (m v : ℕ) → v < size N → on flags v ≡ false → unsettled K N m v ≡ true
    unfolding unsettled Sourced
    left-unsettled zero v l e = refl
    left-unsettled (suc m) v l e =
        let r = all_below_fails (K.of (element_at N v)) (λ p. on flags (source N v p)) (rest v l e) in
        any_below_intro (K.of (element_at N v)) (λ p. unsettled K N m (source N v p)) r.0 r.1
        (left-unsettled m (source N v r.0) (sourced v r.0 l (omega (arith, r.1, K.few (element_at N v)))) r.2)

    pub left_loop : (v : ℕ) → v < size N → on flags v ≡ false → (u : ℕ) × Through K N u u
    left_loop v l e = unsettled_loop K N sourced v l (left-unsettled (size N) v l e)

    -- where nothing more can be placed
    pub outcome : Outcome K N order k
    outcome = record { few = few t; full = complete t; left = λ l. left l (unflagged l) }
      where
        unflagged : k < size N → (v : ℕ) × (v < size N) × (on flags v ≡ false)
        unflagged l = some_off (λ v. on flags v) (size N) (omega (arith, t.count))

        left : k < size N → (v : ℕ) × (v < size N) × (on flags v ≡ false) → (u : ℕ) × Through K N u u
        left l (v, h, e) = left_loop v h e

  -- where there is no loop all are placed
  pub all_placed : {order : List ℕ} {k : ℕ} → Outcome K N order k → ((u : ℕ) → Through K N u u → ⊥) → Complete K N order
  all_placed {order} {k} o none =
      o.full (⊎_elim (λ l. absurd (let r = o.left l in none r.0 r.1)) (λ e. e) (lt-suc_split (let b : k < suc (size N) = omega (arith, o.few) in b)))

  -- ---- the outcome is one of the first places

  module _ (order other : List ℕ) (same : (i : ℕ) → i < size N → get_or other i 0 ≡ get_or order i 0) where
    stands_as : (k v : ℕ) → k ≤ size N → Stands order k v → Stands other k v
    stands_as k v l (j, m, e) = (j, m, same j (omega arith) ∙ e)

    ordered_as : (k : ℕ) → k ≤ size N → Ordered K N order k → Ordered K N other k
    ordered_as k l o = record {
      inside = λ i m. subst (λ (x : ℕ). x < size N) (sym (at i m)) (o.inside i m);
      after = λ i p m q. subst (λ (x : ℕ). Stands other i (source N x p)) (sym (at i m))
          (stands_as i (source N (get_or order i 0) p) (omega arith) (o.after i p m (subst (λ (x : ℕ). p < K.of (element_at N x)) (at i m) q)));
    }
      where
        at : (i : ℕ) → i < k → get_or other i 0 ≡ get_or order i 0
        at i m = same i (omega arith)

    pub outcome_as : {k : ℕ} → Outcome K N order k → Outcome K N other k
    outcome_as t = record { few = t.few; full = λ e. all (t.full e); left = t.left }
      where
        all : Complete K N order → Complete K N other
        all d = record { ordered = ordered_as (size N) (le_refl (size N)) d.ordered; all = λ v l. stands_as (size N) v (le_refl (size N)) (d.all v l) }
