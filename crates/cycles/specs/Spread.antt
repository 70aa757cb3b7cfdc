-- What a start reaches by steps of a class, marked. Assumes nothing.
use Rattle.std.specs.Prelude.{◌≡◌, ◌⊎◌, Bool, true, false, ◌||◌, List, ℕ, ◌+◌, ◌≤◌, ◌<◌, length, get_or, set, replicate, ltb}
use Rattle.std.proofs.Math.Path.{refl}
use Rattle.std.proofs.Common.{sym, ap, subst, ◌∙◌, inl, inr, true≢false, arith, length-set, get_or-set_same, get_or-set_other, lt-ltb, le-ltb}
use Rattle.std.proofs.Math.Logic.{⊎_elim}
use Rattle.std.proofs.lemmas.List.{length-replicate}
use Rattle.std.proofs.Math.Dec.{eqb}
use Rattle.lists.specs.Lists.{any_below, count_below}
use Rattle.lists.proofs.BelowLaws.{true_or_false, eqb-true, eqb_self, eqb_differ, any_below_elim, any_below_intro}
use Rattle.lists.proofs.SearchLaws.{count_one_more}
use Rattle.netlist.specs.Net.{Class, Net, size, element_at, source, Sourced}
use Rattle.netlist.specs.Rank.{Through, once, then}
use Rattle.netlist.specs.Reach.{reaches_itself}
use Rattle.netlist.proofs.ReachLaws.{reaches_itself_iff}
use Rattle.order.specs.Pass.{on, Once, Waiting, Swept, once_more}
use Rattle.order.specs.OrderLaws.{zeros_off, no_count}

-- u reads the start s, or a marked node, by a step of the class
abbrev pub touches : Class → Net → ℕ → List ℕ → ℕ → Bool
touches K N s marks u = any_below (K.of (element_at N u)) (λ p. eqb (source N u p) s || on marks (source N u p))

-- all k that are marked are reached
pub record Reached (K : Class) (N : Net) (s : ℕ) (marks : List ℕ) (k : ℕ) : Type 0 where
  pub room : size N ≤ length marks
  pub sound : (u : ℕ) → u < size N → on marks u ≡ true → Through K N s u
  pub count : count_below (λ u. on marks u) (size N) ≡ k

-- a try at node u, and tries at the first i nodes
abbrev pub ReachedOnce : Class → Net → ℕ → List ℕ → List ℕ → ℕ → ℕ → ℕ → Type 0
ReachedOnce K N s marks₀ marks k₀ k u = Once (Reached K N s marks k) (touches K N s) marks₀ marks k₀ k u

abbrev pub ReachedPass : Class → Net → ℕ → List ℕ → List ℕ → ℕ → ℕ → ℕ → Type 0
ReachedPass K N s marks₀ marks k₀ k i = Swept (Reached K N s marks k) (touches K N s) marks₀ marks k₀ k i

or_cases : (a b : Bool) → (a || b) ≡ true → (a ≡ true) ⊎ (b ≡ true)
or_cases true b e = inl refl
or_cases false b e = inr e

or_right : (a b : Bool) → b ≡ true → (a || b) ≡ true
or_right true b e = refl
or_right false b e = e

module _ (K : Class) (N : Net) where
  pub reached_none : (s m : ℕ) → size N ≤ m → Reached K N s (replicate m 0) 0
  reached_none s m h = record {
    room = simp length-replicate h;
    sound = λ u l e. absurd (true≢false (sym e ∙ ap (ltb 0) (zeros_off m u)));
    count = no_count (λ u. on (replicate m 0) u) (size N) (λ u. ap (ltb 0) (zeros_off m u));
  }

  module _ (sourced : Sourced N) where
    touched_through : (s u : ℕ) {marks : List ℕ} {k : ℕ} → Reached K N s marks k → u < size N → touches K N s marks u ≡ true → Through K N s u
    unfolding Sourced
    touched_through s u {marks} {k} r l e = by (any_below_elim (K.of (element_at N u)) (λ p. eqb (source N u p) s || on marks (source N u p)) e)
      where
        by : (p : ℕ) × (p < K.of (element_at N u)) × ((eqb (source N u p) s || on marks (source N u p)) ≡ true) → Through K N s u
        by (p, q, h) =
            ⊎_elim
            (λ t. once (record { operand = p; inside = l; used = q; from = eqb-true t }))
            (λ t. then (r.sound (source N u p) (sourced u p l (omega (arith, K.few (element_at N u)))) t) (record { operand = p; inside = l; used = q; from = refl }))
            (or_cases (eqb (source N u p) s) (on marks (source N u p)) h)

    pub reached_once : {s u k : ℕ} {marks after : List ℕ} → Reached K N s marks k → u < size N → get_or marks u 0 ≤ 0 → touches K N s marks u ≡ true → after ≡ set marks u 1 → ReachedOnce K N s marks after k (k + 1) u
    reached_once {s} {u} {k} {marks} {after} r l off t e = once_more (subst (λ (m : List ℕ). Reached K N s m (k + 1)) (sym e) more)
      where
        inside : u < length marks
        inside = let m = r.room in omega arith

        other : (v : ℕ) → (v ≡ u → ⊥) → on (set marks u 1) v ≡ on marks v
        other v d = ap (ltb 0) (get_or-set_other marks u v 1 0 d)

        sound_more : (v : ℕ) → v < size N → on (set marks u 1) v ≡ true → Through K N s v
        sound_more v m h =
            ⊎_elim (λ a. subst (λ (x : ℕ). Through K N s x) (sym (eqb-true a)) (touched_through s u r l t)) (λ a. r.sound v m (sym (other v (λ d. eqb_differ a d)) ∙ h)) (true_or_false (eqb v u))

        more : Reached K N s (set marks u 1) (k + 1)
        more = record {
          room = subst (λ (m : ℕ). size N ≤ m) (sym (length-set marks u 1)) r.room;
          sound = sound_more;
          count = count_one_more (λ v. on marks v) (λ v. on (set marks u 1) v) (size N) u l (le-ltb 0 (get_or marks u 0) off) (ap (ltb 0) (get_or-set_same marks u 1 0 inside)) (λ v m d. sym (other v d)) ∙ ap (◌+ 1) r.count;
        }

    -- where nothing more can be marked, all that is reached is marked
    closed : (s : ℕ) (marks : List ℕ) → Waiting (touches K N s) marks (size N) → {u : ℕ} → Through K N s u → on marks u ≡ true
    closed s marks w {u} (once r) =
        marked (any_below_intro (K.of (element_at N u)) (λ p. eqb (source N u p) s || on marks (source N u p)) r.operand r.used (rw r.from (rw (eqb_self s))))
      where
        marked : touches K N s marks u ≡ true → on marks u ≡ true
        marked t = ⊎_elim (λ a. a) (λ a. absurd (true≢false (sym t ∙ w u r.inside a))) (true_or_false (on marks u))
    closed s marks w {u} (then {x = x} v r) = marked (closed s marks w v)
      where
        marked : on marks x ≡ true → on marks u ≡ true
        marked h =
            let t : touches K N s marks u ≡ true = any_below_intro (K.of (element_at N u)) (λ p. eqb (source N u p) s || on marks (source N u p)) r.operand r.used (or_right (eqb (source N u r.operand) s) _ (ap (on marks) r.from ∙ h)) in
            ⊎_elim (λ a. a) (λ a. absurd (true≢false (sym t ∙ w u r.inside a))) (true_or_false (on marks u))

    -- the start is marked: it reaches itself; it is not, and nothing more can be: it does not
    pub start_hit : {s k : ℕ} {marks : List ℕ} → Reached K N s marks k → s < size N → 0 < get_or marks s 0 → reaches_itself K N s ≡ true
    start_hit {s} {k} {marks} r l h = (reaches_itself_iff K N sourced s l).1 (r.sound s l (lt-ltb 0 (get_or marks s 0) h))

    pub start_missed : (s : ℕ) (marks : List ℕ) → Waiting (touches K N s) marks (size N) → s < size N → get_or marks s 0 ≤ 0 → reaches_itself K N s ≡ false
    start_missed s marks w l h =
        ⊎_elim (λ t. absurd (true≢false (sym (closed s marks w ((reaches_itself_iff K N sourced s l).0 t)) ∙ le-ltb 0 (get_or marks s 0) h))) (λ t. t) (true_or_false (reaches_itself K N s))
