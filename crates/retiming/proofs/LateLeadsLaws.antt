-- A lead is the largest excess of a walk that counts; 11 is said where a closed walk that can go on to count has positive excess, and only there;
-- 12 where a walk from an input port that counts does. Which walks count is told by where they end. Assumes nothing.
use Rattle.std.specs.Prelude.{◌≡◌, ◌≢◌, ◌↔◌, ◌⊎◌, Bool, true, false, ltb}
use Rattle.std.proofs.Math.Path.{refl, sym, ap}
use Rattle.std.proofs.Common.{◌∙◌, true≢false, not-suc-le-zero, le_of_suc-le-suc, arith}
use Rattle.std.proofs.Math.Logic.{inl, inr, ⊎_elim}
use Rattle.std.proofs.lemmas.Bool.{false≢true}
use mathlib.Core.List.{List}
use Prim.Native.Nat.{ℕ, zero, suc, ◌+◌, ◌-◌, ◌≤◌, ◌<◌, max, zero-le, suc-le-suc}
use Rattle.std.proofs.Math.ListN.{length, get_or}
use borrow.Author.Tests.{lt-ltb, ltb-true}
use Rattle.lists.specs.Lists.{largest, same}
use Rattle.lists.proofs.BelowLaws.{and_left, and_right, true_or_false, largest-le, largest_is, same_true, same_false, get_or_listed, length_listed, lt_or_le, one_le}
use Rattle.netlist.specs.Net.{Net, size, element_at, is_input, is_register, Sourced}
use Rattle.netlist.specs.Reach.{Reads, reads_test}
use Rattle.retiming.specs.Leads.{async_here, register_here, Walk, here, step, leaves, enters, steps}
use Rattle.retiming.specs.LateLeads.{origin, onward, Counts, first_lead, asked_to, relax_to, leads_to_after, leads_to, lead_to, closed_debt_to, owing_port_to}
use Rattle.retiming.proofs.Walks.{reads_inside, walk_inside}
use Rattle.retiming.specs.LeadsLaws.{Cut}
use Rattle.retiming.proofs.LeadsLaws.{reads_test_lem, test_reads, cut}
use Rattle.retiming.specs.LateLeadsLaws.{lead_after, Reached, PositiveClosedTo, OwesTo}

register_le : (N : Net) (x : ℕ) → register_here N x ≤ 1
unfolding register_here
register_le N x = one_le (is_register (element_at N x))

enters-le : (N : Net) {u v : ℕ} (w : Walk N u v) → enters w ≤ steps w
unfolding enters steps
enters-le N (here e) = zero-le
enters-le N (step {x = x} r w) = omega (arith, enters-le N w, register_le N x)

onward-zero : (r q y : ℕ) → (onward r q y ≡ 0) ⊎ ((0 < y) × (onward r q y ≡ (r + y) - q))
unfolding onward
onward-zero r q zero = inl refl
onward-zero r q (suc y) = inr (suc-le-suc zero-le, refl)

onward-more : (r q y : ℕ) → 0 < y → onward r q y ≡ (r + y) - q
unfolding onward
onward-more r q zero l = absurd (not-suc-le-zero l)
onward-more r q (suc y) l = refl

module _ (N : Net) (ends : ℕ → Bool) where
  asked_is : (f : ℕ → ℕ) {x u : ℕ} → Reads N x u → 0 < f x → asked_to N ends f u x ≡ (async_here N u + f x) - register_here N x
  unfolding asked_to
  asked_is f {x} {u} r l = rw (reads_test_lem N r) (onward-more (async_here N u) (register_here N x) (f x) l)

  relax_at : (l : List ℕ) (u : ℕ) → u < size N → get_or (relax_to N ends l) u 0 ≡ max (first_lead N ends u) (largest (size N) (asked_to N ends (λ x. get_or l x 0) u))
  unfolding relax_to
  relax_at l u h = get_or_listed (λ v. max (first_lead N ends v) (largest (size N) (asked_to N ends (λ x. get_or l x 0) v))) (size N) u 0 h

  -- one round asks enough for each reader
  relax_enough : (l : List ℕ) {x u : ℕ} → u < size N → Reads N x u → 0 < get_or l x 0 → async_here N u + get_or l x 0 ≤ get_or (relax_to N ends l) u 0 + register_here N x
  relax_enough l {x} {u} h r pos =
      omega (arith, relax_at l u h, asked_is (λ v. get_or l v 0) r pos, largest-le (size N) (asked_to N ends (λ v. get_or l v 0) u) x r.inside)

  abbrev Just : List ℕ → ℕ → Type 0
  Just l u = (x : ℕ) × Reads N x u × (0 < get_or l x 0) × (get_or (relax_to N ends l) u 0 ≡ (async_here N u + get_or l x 0) - register_here N x)

  -- and no more: the empty walk, or what some reader asks
  relax_just : (l : List ℕ) (u : ℕ) → u < size N → (get_or (relax_to N ends l) u 0 ≡ first_lead N ends u) ⊎ Just l u
  unfolding asked_to
  relax_just l u h =
      ⊎_elim (λ k. inl (omega (arith, relax_at l u h, k)))
      (λ k. ⊎_elim (λ z. inl (omega (arith, relax_at l u h, k, z))) (λ (x, hx, e). by_test x hx k e) (largest_is (size N) (asked_to N ends (λ x. get_or l x 0) u)))
      (lt_or_le (largest (size N) (asked_to N ends (λ x. get_or l x 0) u)) (first_lead N ends u))
    where
      by_test : (x : ℕ) → x < size N → first_lead N ends u ≤ largest (size N) (asked_to N ends (λ v. get_or l v 0) u) → largest (size N) (asked_to N ends (λ v. get_or l v 0) u) ≡ asked_to N ends (λ v. get_or l v 0) u x
          → (get_or (relax_to N ends l) u 0 ≡ first_lead N ends u) ⊎ Just l u
      by_test x hx k e =
          ⊎_elim
          (λ t. let a : asked_to N ends (λ v. get_or l v 0) u x ≡ onward (async_here N u) (register_here N x) (get_or l x 0) = rw t in
          ⊎_elim (λ z. inl (omega (arith, relax_at l u h, k, e, a, z))) (λ (pos, z). inr (x, test_reads N x u hx t, pos, omega (arith, relax_at l u h, k, e, a, z))) (onward-zero (async_here N u) (register_here N x) (get_or l x 0)))
          (λ t. let a : asked_to N ends (λ v. get_or l v 0) u x ≡ 0 = rw t in inl (omega (arith, relax_at l u h, k, e, a))) (true_or_false (reads_test N x u))

  lead_after-zero : (u : ℕ) → u < size N → lead_after N ends 0 u ≡ first_lead N ends u
  unfolding lead_after leads_to_after
  lead_after-zero u h = get_or_listed (first_lead N ends) (size N) u 0 h

  lead_after_enough : (k : ℕ) {x u : ℕ} → u < size N → Reads N x u → 0 < lead_after N ends k x → async_here N u + lead_after N ends k x ≤ lead_after N ends (suc k) u + register_here N x
  unfolding lead_after leads_to_after
  lead_after_enough k h r pos = relax_enough (leads_to_after N ends k) h r pos

  lead_after_just : (k u : ℕ) → u < size N → (lead_after N ends (suc k) u ≡ first_lead N ends u) ⊎ ((x : ℕ) × Reads N x u × (0 < lead_after N ends k x) × (lead_after N ends (suc k) u ≡ (async_here N u + lead_after N ends k x) - register_here N x))
  unfolding lead_after leads_to_after
  lead_after_just k u h = relax_just (leads_to_after N ends k) u h

  first_is : (u : ℕ) → ends u ≡ true → first_lead N ends u ≡ origin N
  unfolding first_lead
  first_is u e = rw e

  first_only : (u : ℕ) → 0 < first_lead N ends u → (ends u ≡ true) × (first_lead N ends u ≡ origin N)
  unfolding first_lead
  first_only u l = ⊎_elim (λ t. (t, rw t)) (λ t. absurd (not-suc-le-zero (rw t at l))) (true_or_false (ends u))

  lead_after-first : (k u : ℕ) → u < size N → first_lead N ends u ≤ lead_after N ends k u
  unfolding lead_after leads_to_after
  lead_after-first zero u h = omega (arith, lead_after-zero u h)
  lead_after-first (suc k) u h = omega (arith, relax_at (leads_to_after N ends k) u h)

  -- after k rounds: a bound on the walks of at most k steps that count
  pub bounds : (k : ℕ) {u v : ℕ} (w : Walk N u v) → u < size N → ends v ≡ true → steps w ≤ k → k ≤ suc (size N) → origin N + leaves w ≤ enters w + lead_after N ends k u
  unfolding leaves enters steps origin
  bounds k {u} (here z) h e l m = omega (arith, lead_after-first k u h, first_is u (ap ends z ∙ e))
  bounds zero (step r w) h e l m = absurd (not-suc-le-zero l)
  bounds (suc k) (step r w) h e l m =
      let a = bounds k w r.inside e (le_of_suc-le-suc l) (omega arith) in
      omega (arith, a, lead_after_enough k h r (omega (arith, a, enters-le N w)))

  stay : (k u : ℕ) → 0 < lead_after N ends k u → lead_after N ends k u ≡ first_lead N ends u → Reached N ends k u
  unfolding leaves enters steps
  stay k u pos e =
      let f = first_only u (omega arith) in
      record { end = u; walk = here refl; ending = f.0; short = zero-le; exact = omega (arith, f.1) }

  go_on : (k u x : ℕ) → Reads N x u → 0 < lead_after N ends (suc k) u → lead_after N ends (suc k) u ≡ (async_here N u + lead_after N ends k x) - register_here N x → Reached N ends k x → Reached N ends (suc k) u
  unfolding leaves enters steps
  go_on k u x r pos e b = record { end = b.end; walk = step r b.walk; ending = b.ending; short = suc-le-suc b.short; exact = omega (arith, b.exact) }

  pub reached : (k u : ℕ) → u < size N → 0 < lead_after N ends k u → Reached N ends k u
  reached zero u h pos = stay 0 u pos (lead_after-zero u h)
  reached (suc k) u h pos =
      ⊎_elim (λ z. stay (suc k) u pos z)
      (λ (x, r, l, e). go_on k u x r pos e (reached k x r.inside l))
      (lead_after_just k u h)

  -- more rounds never lower a lead
  grows : (k u : ℕ) → u < size N → k ≤ size N → lead_after N ends k u ≤ lead_after N ends (suc k) u
  grows k u h m =
      ⊎_elim (λ l. let r : Reached N ends k u = reached k u h l in omega (arith, r.exact, bounds (suc k) r.walk h r.ending (omega (arith, r.short)) (omega arith))) (λ l. omega arith) (lt_or_le 0 (lead_after N ends k u))

  pub still_changing : (u : ℕ) → u < size N → lead_after N ends (suc (size N)) u ≢ (lead_after N ends) (size N) u → PositiveClosedTo N ends
  still_changing u h ne =
      let r : Reached N ends (suc (size N)) u = reached (suc (size N)) u h (omega (arith, grows (size N) u h (omega arith), ne)) in
      by_cut r (⊎_elim (λ l. l) (λ l. absurd (ne (omega (arith, grows (size N) u h (omega arith), bounds (size N) r.walk h r.ending (omega arith) (omega arith), r.exact)))) (lt_or_le (size N) (steps r.walk)))
    where
      by_cut : (r : Reached N ends (suc (size N)) u) → size N < steps r.walk → PositiveClosedTo N ends
      by_cut r l =
          let c : Cut N r.walk = cut N r.walk h (omega arith) in
          record {
            node = c.node;
            round = c.round;
            owes = omega (arith, c.leaves-sum, c.enters-sum, r.exact, grows (size N) u h (omega arith), ne, bounds (size N) c.rest h r.ending (omega (arith, c.shorter, r.short)) (omega arith));
            out = record { end = r.end; walk = c.out; ending = r.ending };
          }

  -- ---- the leads

  length-relax : (l : List ℕ) → length (relax_to N ends l) ≡ size N
  unfolding relax_to
  length-relax l = length_listed (λ u. max (first_lead N ends u) (largest (size N) (asked_to N ends (λ x. get_or l x 0) u))) (size N)

  length-leads_after : (k : ℕ) → length (leads_to_after N ends k) ≡ size N
  unfolding leads_to_after
  length-leads_after zero = length_listed (first_lead N ends) (size N)
  length-leads_after (suc k) = length-relax (leads_to_after N ends k)

  fixed : closed_debt_to N ends ≡ false → relax_to N ends (leads_to N ends) ≡ leads_to N ends
  unfolding closed_debt_to
  fixed e = same_true (relax_to N ends (leads_to N ends)) (leads_to N ends) (⊎_elim (λ t. t) (λ t. absurd (true≢false (rw t at e))) (true_or_false (same (relax_to N ends (leads_to N ends)) (leads_to N ends))))

  lead_after_lem : (u : ℕ) → lead_to N ends u ≡ lead_after N ends (size N) u
  unfolding lead_to leads_to lead_after
  lead_after_lem u = refl

  not_same : closed_debt_to N ends ≡ true → same (relax_to N ends (leads_to N ends)) (leads_to N ends) ≡ false
  unfolding closed_debt_to
  not_same e = ⊎_elim (λ t. absurd (false≢true (rw t at e))) (λ t. t) (true_or_false (same (relax_to N ends (leads_to N ends)) (leads_to N ends)))

  changes : closed_debt_to N ends ≡ true → PositiveClosedTo N ends
  unfolding leads_to lead_after leads_to_after
  changes e = at_place (same_false (relax_to N ends (leads_to N ends)) (leads_to N ends) (length-relax (leads_to N ends) ∙ sym (length-leads_after (size N))) (not_same e))
    where
      at_place : (i : ℕ) × (i < length (relax_to N ends (leads_to N ends))) × (get_or (relax_to N ends (leads_to N ends)) i 0 ≢ get_or (leads_to N ends) i 0) → PositiveClosedTo N ends
      at_place (i, h, d) = still_changing i (rw (length-relax (leads_to N ends)) at h) d

  -- one walk reaches the lead
  pub lead_reached : (u : ℕ) → u < size N → 0 < lead_to N ends u → (v : ℕ) × (w : Walk N u v) × (ends v ≡ true) × (origin N + leaves w ≡ enters w + lead_to N ends u)
  lead_reached u h l = let r : Reached N ends (size N) u = reached (size N) u h (omega (arith, lead_after_lem u)) in (r.end, r.walk, r.ending, omega (arith, r.exact, lead_after_lem u))

  pub ending_lead : (u : ℕ) → u < size N → ends u ≡ true → origin N ≤ lead_to N ends u
  ending_lead u h e = omega (arith, lead_after_lem u, lead_after-first (size N) u h, first_is u e)

  pub origin_positive : 0 < origin N
  unfolding origin
  origin_positive = suc-le-suc zero-le

  -- where 11 does not apply
  module _ (sourced : Sourced N) (debtless : closed_debt_to N ends ≡ false) where
    stable : (u : ℕ) → lead_after N ends (suc (size N)) u ≡ lead_to N ends u
    unfolding lead_to leads_to lead_after leads_to_after
    stable u = ap (λ (l : List ℕ). get_or l u 0) (fixed debtless)

    -- the leads serve every step to a node with a walk that counts
    pub lead_serves : {x u : ℕ} → Reads N x u → 0 < lead_to N ends x → async_here N u + lead_to N ends x ≤ lead_to N ends u + register_here N x
    lead_serves {x} {u} r pos = omega (arith, lead_after_enough (size N) (reads_inside sourced r) r (omega (arith, lead_after_lem x)), stable u, lead_after_lem x)

    -- and what such a node reads has one too
    pub lead-back : {x u : ℕ} → Reads N x u → 0 < lead_to N ends x → 0 < lead_to N ends u
    unfolding origin steps
    lead-back {x} {u} r pos =
        let b : Reached N ends (size N) x = reached (size N) x r.inside (omega (arith, lead_after_lem x)) in
        let w = step r b.walk in
        omega (arith, stable u, bounds (suc (size N)) w (reads_inside sourced r) b.ending (suc-le-suc b.short) (omega arith), enters-le N w, b.short)

    pub walk_bound : {u v : ℕ} (w : Walk N u v) → 0 < lead_to N ends v → (0 < lead_to N ends u) × (leaves w + lead_to N ends v ≤ enters w + lead_to N ends u)
    unfolding leaves enters
    walk_bound (here e) pos = (omega (arith, ap (lead_to N ends) e), omega (arith, ap (lead_to N ends) e))
    walk_bound (step r w) pos = let b = walk_bound w pos in (lead-back r b.0, omega (arith, b.1, lead_serves r b.0))

    -- a lead bounds the walks that count
    pub lead_bounds_walk : {u v : ℕ} (w : Walk N u v) → u < size N → ends v ≡ true → (0 < lead_to N ends u) × (origin N + leaves w ≤ enters w + lead_to N ends u)
    lead_bounds_walk w h e =
        let l = ending_lead _ (walk_inside w h) e in
        let b = walk_bound w (omega (arith, origin_positive, l)) in (b.0, omega (arith, b.1, l))

    pub counts_lead : (u : ℕ) → u < size N → Counts N ends u → 0 < lead_to N ends u
    counts_lead u h c = (lead_bounds_walk c.walk h c.ending).0

    pub no_positive_closed : (c : PositiveClosedTo N ends) → c.node < size N → ⊥
    no_positive_closed c h = let b : leaves c.round + lead_to N ends c.node ≤ enters c.round + lead_to N ends c.node = (walk_bound c.round (counts_lead c.node h c.out)).1 in omega (arith, c.owes)

  -- a closed walk of positive excess has a step
  pub round_inside : Sourced N → {u v : ℕ} (w : Walk N u v) → 0 < leaves w → u < size N
  unfolding leaves
  round_inside sourced (here e) l = absurd (not-suc-le-zero l)
  round_inside sourced (step r w) l = reads_inside sourced r

  -- 11 is said just where a closed walk that can go on to count has positive excess
  pub closed_debt_iff : Sourced N → closed_debt_to N ends ≡ true ↔ PositiveClosedTo N ends
  closed_debt_iff sourced = (
    changes,
    λ c. ⊎_elim (λ t. t) (λ t. absurd (no_positive_closed sourced t c (round_inside sourced c.round (omega (arith, c.owes))))) (true_or_false (closed_debt_to N ends)),
  )

  -- just where the lead of v is positive, where 11 does not apply
  pub owes_iff : Sourced N → closed_debt_to N ends ≡ false → (v : ℕ) → v < size N → (origin N < lead_to N ends v) ↔ OwesTo N ends v
  owes_iff sourced debtless v h = (
    λ l. let r = lead_reached v h (omega arith) in record { from = record { end = r.0; walk = r.1; ending = r.2 }; owes = omega (arith, r.3) },
    λ o. omega (arith, (lead_bounds_walk sourced debtless o.from.walk h o.from.ending).1, o.owes),
  )

  pub owing_is : (v : ℕ) → owing_port_to N ends v ≡ true → (is_input (element_at N v) ≡ true) × (origin N < lead_to N ends v)
  unfolding owing_port_to
  owing_is v t = (and_left (is_input (element_at N v)) (ltb (origin N) (lead_to N ends v)) t, ltb-true (origin N) (lead_to N ends v) (and_right (is_input (element_at N v)) (ltb (origin N) (lead_to N ends v)) t))

  pub is_owing : (v : ℕ) → is_input (element_at N v) ≡ true → origin N < lead_to N ends v → owing_port_to N ends v ≡ true
  unfolding owing_port_to
  is_owing v i l = rw i (lt-ltb (origin N) (lead_to N ends v) l)

  -- what nobody reads has the empty walk alone
  unread-after : (k u : ℕ) → u < size N → ((x : ℕ) → Reads N x u → ⊥) → lead_after N ends k u ≡ first_lead N ends u
  unread-after zero u h none = lead_after-zero u h
  unread-after (suc k) u h none = ⊎_elim (λ z. z) (λ r. absurd (none r.0 r.1)) (lead_after_just k u h)

  pub lead-unread : (u : ℕ) → u < size N → ends u ≡ true → ((x : ℕ) → Reads N x u → ⊥) → lead_to N ends u ≡ origin N
  lead-unread u h e none = lead_after_lem u ∙ unread-after (size N) u h none ∙ first_is u e
