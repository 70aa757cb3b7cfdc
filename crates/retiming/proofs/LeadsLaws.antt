-- A lead is the largest excess of a walk; 11 is said where a closed walk has positive excess, and only there. Assumes nothing.
use Rattle.std.specs.Prelude.{◌≡◌, refl, ◌≢◌, ◌↔◌, ◌⊎◌, true, false, List}
use Rattle.std.proofs.Math.Path.{sym}
use Rattle.std.proofs.Common.{ap, ◌∙◌, true≢false, not-suc-le-zero, le_of_suc-le-suc}
use Rattle.std.proofs.Math.Logic.{inl, inr, ⊎_elim}
use Rattle.std.proofs.lemmas.Bool.{false≢true}
use Prim.Native.Nat.{ℕ, zero, suc, ◌+◌, ◌-◌, ◌≤◌, ◌<◌, zero-le, suc-le-suc}
use native.Mathlib.Omega.{arith}
use Rattle.std.proofs.Math.ListN.{length, get_or, length-replicate, get_or-replicate}
use Rattle.std.proofs.Math.Dec.{eqb}
use Rattle.lists.specs.Lists.{largest, same}
use Rattle.lists.proofs.BelowLaws.{true_or_false, eqb-true, eqb_self, any_below_intro, any_below_elim, largest-le, largest_is, same_true, same_false, get_or_listed, length_listed, lt_or_le, Twice, pigeonhole}
use Rattle.netlist.specs.Net.{Net, size, element_at, source, operands, Sourced}
use Rattle.netlist.specs.Reach.{Reads, reads_test}
use Rattle.retiming.specs.Leads.{async_here, register_here, Walk, here, step, leaves, enters, steps, asked, relax, leads_after, leads, lead, closed_debt}
use Rattle.retiming.proofs.Walks.{reads_inside, join, leaves-join, enters-join, steps-join, visit, visit_inside, Split, split}
use Rattle.retiming.specs.LeadsLaws.{Serves, lead_after, Reached, PositiveClosed, Cut}

pub walk_bound : (N : Net) (f : ℕ → ℕ) → Serves N f → {u v : ℕ} (w : Walk N u v) → leaves w + f v ≤ enters w + f u
unfolding Serves leaves enters
walk_bound N f serves (here e) = omega (arith, ap f e)
walk_bound N f serves (step {u = u} {x = x} r w) = omega (arith, walk_bound N f serves w, serves x u r)

-- so a closed walk has no positive excess, and f u bounds the walks from u
pub no_positive_closed : (N : Net) (f : ℕ → ℕ) → Serves N f → {u : ℕ} (w : Walk N u u) → leaves w ≤ enters w
no_positive_closed N f serves w = omega (arith, walk_bound N f serves w)

pub serving_bounds : (N : Net) (f : ℕ → ℕ) → Serves N f → {u v : ℕ} (w : Walk N u v) → leaves w ≤ enters w + f u
serving_bounds N f serves w = omega (arith, walk_bound N f serves w)

module _ (N : Net) where
  pub reads_test_lem : {x u : ℕ} → Reads N x u → reads_test N x u ≡ true
  unfolding reads_test
  reads_test_lem {x} {u} r = any_below_intro (operands (element_at N x)) (λ p. eqb (source N x p) u) r.operand r.used (rw r.from (eqb_self u))

  pub test_reads : (x u : ℕ) → x < size N → reads_test N x u ≡ true → Reads N x u
  unfolding reads_test
  test_reads x u h e =
      let r = any_below_elim (operands (element_at N x)) (λ p. eqb (source N x p) u) e in
      record { operand = r.0; inside = h; used = r.1; from = eqb-true r.2 }

  asked_is : (f : ℕ → ℕ) {x u : ℕ} → Reads N x u → asked N f u x ≡ (async_here N u + f x) - register_here N x
  unfolding asked
  asked_is f r = rw (reads_test_lem r)

  relax_at : (l : List ℕ) (u : ℕ) → u < size N → get_or (relax N l) u 0 ≡ largest (size N) (asked N (λ x. get_or l x 0) u)
  unfolding relax
  relax_at l u h = get_or_listed (λ v. largest (size N) (asked N (λ x. get_or l x 0) v)) (size N) u 0 h

  -- one round asks enough for each reader
  relax_enough : (l : List ℕ) {x u : ℕ} → u < size N → Reads N x u → async_here N u + get_or l x 0 ≤ get_or (relax N l) u 0 + register_here N x
  relax_enough l {x} {u} h r =
      omega (arith, relax_at l u h, asked_is (λ v. get_or l v 0) r, largest-le (size N) (asked N (λ v. get_or l v 0) u) x r.inside)

  -- and no more: 0, or what some reader asks
  relax_just : (l : List ℕ) (u : ℕ) → u < size N
      → (get_or (relax N l) u 0 ≡ 0) ⊎ ((x : ℕ) × Reads N x u × (get_or (relax N l) u 0 ≡ (async_here N u + get_or l x 0) - register_here N x))
  unfolding asked
  relax_just l u h = ⊎_elim (λ z. inl (relax_at l u h ∙ z)) (λ r. by_test r.0 r.1 (relax_at l u h ∙ r.2)) (largest_is (size N) (asked N (λ x. get_or l x 0) u))
    where
      by_test : (x : ℕ) → x < size N → get_or (relax N l) u 0 ≡ asked N (λ v. get_or l v 0) u x
          → (get_or (relax N l) u 0 ≡ 0) ⊎ ((x : ℕ) × Reads N x u × (get_or (relax N l) u 0 ≡ (async_here N u + get_or l x 0) - register_here N x))
      by_test x k e = ⊎_elim (λ t. inr (x, test_reads x u k t, e ∙ rw t)) (λ t. inl (e ∙ rw t)) (true_or_false (reads_test N x u))

  lead_after-zero : (u : ℕ) → u < size N → lead_after N 0 u ≡ 0
  unfolding lead_after leads_after
  lead_after-zero u h = get_or-replicate (size N) u 0 0 h

  lead_after_enough : (k : ℕ) {x u : ℕ} → u < size N → Reads N x u → async_here N u + lead_after N k x ≤ lead_after N (suc k) u + register_here N x
  unfolding lead_after leads_after
  lead_after_enough k h r = relax_enough (leads_after N k) h r

  lead_after_just : (k u : ℕ) → u < size N
      → (lead_after N (suc k) u ≡ 0) ⊎ ((x : ℕ) × Reads N x u × (lead_after N (suc k) u ≡ (async_here N u + lead_after N k x) - register_here N x))
  unfolding lead_after leads_after
  lead_after_just k u h = relax_just (leads_after N k) u h

  -- after k rounds: a bound on the walks of at most k steps
  pub bounds : (k : ℕ) {u v : ℕ} (w : Walk N u v) → u < size N → steps w ≤ k → leaves w ≤ enters w + lead_after N k u
  unfolding leaves enters steps
  bounds k (here e) h l = zero-le
  bounds zero (step r w) h l = absurd (not-suc-le-zero l)
  bounds (suc k) (step r w) h l = omega (arith, bounds k w r.inside (le_of_suc-le-suc l), lead_after_enough k h r)

  stay : (k u : ℕ) → lead_after N k u ≡ 0 → Reached N k u
  unfolding leaves enters steps
  stay k u e = record { end = u; walk = here refl; short = zero-le; exact = omega arith }

  go_on : (k u x : ℕ) → Reads N x u → zero < lead_after N (suc k) u → lead_after N (suc k) u ≡ (async_here N u + lead_after N k x) - register_here N x → Reached N k x → Reached N (suc k) u
  unfolding leaves enters steps
  go_on k u x r pos e b = record { end = b.end; walk = step r b.walk; short = suc-le-suc b.short; exact = omega (arith, b.exact) }

  pub reached : (k u : ℕ) → u < size N → Reached N k u
  reached zero u h = stay 0 u (lead_after-zero u h)
  reached (suc k) u h =
      ⊎_elim (λ z. stay (suc k) u z)
      (λ r. ⊎_elim (λ l. go_on k u r.0 r.1 l r.2 (reached k r.0 r.1.inside)) (λ l. stay (suc k) u (omega (arith, l))) (lt_or_le 0 (lead_after N (suc k) u)))
      (lead_after_just k u h)

  cut_out : {u v : ℕ} (w : Walk N u v) (i m : ℕ) (s : Split w i) (z : Split s.tail (suc m)) → visit w i ≡ visit w (i + suc m) → Cut N w
  unfolding steps leaves enters
  cut_out w i m s z e =
      let back : visit s.tail (suc m) ≡ visit w i = s.onward (suc m) ∙ sym e in
      let h : Walk N (visit w i) (visit s.tail (suc m)) = z.head in
      let t : Walk N (visit s.tail (suc m)) _ = z.tail in
      let over : Walk N (visit w i) (visit s.tail (suc m)) = here (sym back) in
      record {
        node = visit w i;
        round = join h (here back);
        rest = join s.head (join over t);
        out = join over t;
        shorter = omega (arith, s.steps-sum, z.steps-sum, steps-join s.head (join over t), steps-join over t, s.steps_head);
        leaves-sum = omega (arith, s.leaves-sum, z.leaves-sum, leaves-join h (here back), leaves-join s.head (join over t), leaves-join over t);
        enters-sum = omega (arith, s.enters-sum, z.enters-sum, enters-join h (here back), enters-join s.head (join over t), enters-join over t);
      }

  cut_at : {u v : ℕ} (w : Walk N u v) (i j : ℕ) → i < j → j ≤ steps w → visit w i ≡ visit w j → Cut N w
  cut_at w i j a b e =
      let m : ℕ = j - suc i in
      let k : j ≡ i + suc m = omega arith in
      let s : Split w i = split w i (omega arith) in
      cut_out w i m s (split s.tail (suc m) (omega (arith, s.steps-sum))) (e ∙ ap (visit w) k)

  pub cut : {u v : ℕ} (w : Walk N u v) → u < size N → size N ≤ steps w → Cut N w
  cut w h l =
      let t : Twice (visit w) (size N) = pigeonhole (size N) (visit w) (λ i k. visit_inside w h i) in
      cut_at w t.first t.second t.apart (omega (arith, t.within)) t.alike

  -- more rounds never lower a lead
  grows : (k u : ℕ) → u < size N → lead_after N k u ≤ lead_after N (suc k) u
  grows k u h = let r : Reached N k u = reached k u h in omega (arith, r.exact, bounds (suc k) r.walk h (omega (arith, r.short)))

  pub still_changing : (u : ℕ) → u < size N → lead_after N (suc (size N)) u ≢ (lead_after N) (size N) u → PositiveClosed N
  still_changing u h ne = by_cut r (⊎_elim (λ l. l) (λ l. absurd (ne (omega (arith, grows (size N) u h, bounds (size N) r.walk h (omega arith), r.exact)))) (lt_or_le (size N) (steps r.walk)))
    where
      r : Reached N (suc (size N)) u
      r = reached (suc (size N)) u h

      by_cut : (r : Reached N (suc (size N)) u) → size N < steps r.walk → PositiveClosed N
      by_cut r l =
          let c : Cut N r.walk = cut r.walk h (omega arith) in
          record {
            node = c.node;
            round = c.round;
            owes = omega (arith, c.leaves-sum, c.enters-sum, r.exact, grows (size N) u h, ne, bounds (size N) c.rest h (omega (arith, c.shorter, r.short)));
          }

  -- ---- the leads

  length-relax : (l : List ℕ) → length (relax N l) ≡ size N
  unfolding relax
  length-relax l = length_listed (λ u. largest (size N) (asked N (λ x. get_or l x 0) u)) (size N)

  length-leads_after : (k : ℕ) → length (leads_after N k) ≡ size N
  unfolding leads_after
  length-leads_after zero = length-replicate (size N) 0
  length-leads_after (suc k) = length-relax (leads_after N k)

  fixed : closed_debt N ≡ false → relax N (leads N) ≡ leads N
  unfolding closed_debt
  fixed e = same_true (relax N (leads N)) (leads N) (⊎_elim (λ t. t) (λ t. absurd (true≢false (rw t at e))) (true_or_false (same (relax N (leads N)) (leads N))))

  -- where 11 does not apply, the leads serve every step
  pub lead_serves : Sourced N → closed_debt N ≡ false → Serves N (lead N)
  unfolding Serves lead
  lead_serves sourced e x u r =
      rw (fixed e) at (relax_enough (leads N) (reads_inside sourced r) r)

  not_same : closed_debt N ≡ true → same (relax N (leads N)) (leads N) ≡ false
  unfolding closed_debt
  not_same e = ⊎_elim (λ t. absurd (false≢true (rw t at e))) (λ t. t) (true_or_false (same (relax N (leads N)) (leads N)))

  changes : closed_debt N ≡ true → PositiveClosed N
  unfolding leads lead_after leads_after
  changes e = at_place (same_false (relax N (leads N)) (leads N) (length-relax (leads N) ∙ sym (length-leads_after (size N))) (not_same e))
    where
      at_place : (i : ℕ) × (i < length (relax N (leads N))) × (get_or (relax N (leads N)) i 0 ≢ get_or (leads N) i 0) → PositiveClosed N
      at_place (i, h, d) = still_changing i (rw (length-relax (leads N)) at h) d

  -- 11 is said just where a closed walk has positive excess
  pub closed_debt_iff : Sourced N → closed_debt N ≡ true ↔ PositiveClosed N
  closed_debt_iff sourced = (
    changes,
    λ c. ⊎_elim (λ t. t) (λ t. let bound : leaves c.round ≤ enters c.round = no_positive_closed N (lead N) (lead_serves sourced t) c.round in
        absurd (omega (arith, c.owes))) (true_or_false (closed_debt N)),
  )

  -- a lead is the largest excess of a walk: every walk is bounded by it, where 11 does not apply,
  pub lead_bounds_walk : Sourced N → closed_debt N ≡ false → {u v : ℕ} (w : Walk N u v) → leaves w ≤ enters w + lead N u
  lead_bounds_walk sourced e w = serving_bounds N (lead N) (lead_serves sourced e) w

  -- and one reaches it
  pub lead_reached : (u : ℕ) → u < size N → (v : ℕ) × (w : Walk N u v) × (leaves w ≡ enters w + lead N u)
  unfolding lead leads lead_after
  lead_reached u h = let r : Reached N (size N) u = reached (size N) u h in (r.end, r.walk, r.exact)

  -- leads are the least that serve
  pub lead_least : (f : ℕ → ℕ) → Serves N f → (u : ℕ) → u < size N → lead N u ≤ f u
  lead_least f serves u h = let r = lead_reached u h in omega (arith, r.2, serving_bounds N f serves r.1)

  -- what nobody reads has lead 0
  unread-after : (k u : ℕ) → u < size N → ((x : ℕ) → Reads N x u → ⊥) → lead_after N k u ≡ 0
  unread-after zero u h none = lead_after-zero u h
  unread-after (suc k) u h none = ⊎_elim (λ z. z) (λ r. absurd (none r.0 r.1)) (lead_after_just k u h)

  pub lead-unread : (u : ℕ) → u < size N → ((x : ℕ) → Reads N x u → ⊥) → lead N u ≡ 0
  unfolding lead leads lead_after
  lead-unread u h none = unread-after (size N) u h none
