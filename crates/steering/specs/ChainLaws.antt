-- The gates of a wire counted, and the chain that steers them all, from what the timing area holds. Assumes nothing.
use Rattle.std.specs.Prelude.{◌≡◌, Bool, List, get_or, ltb}
use Rattle.std.proofs.Math.Path.{refl, sym, ap}
use Rattle.std.proofs.Common.{ap₂, ◌∙◌, add-one, lt-ltb, le-ltb}
use Rattle.std.proofs.Math.Logic.{⊎_elim}
use Rattle.std.proofs.Math.Bool.{cond}
use Prim.Native.Nat.{ℕ, zero, suc, ◌+◌, ◌-◌, ◌≤◌, ◌<◌, max}
use native.Mathlib.Omega.{arith}
use Rattle.lists.specs.Lists.{one, largest}
use Rattle.lists.proofs.BelowLaws.{lt_or_le}
use Rattle.netlist.specs.Net.{Net, size, element_at, source, is_clocked}
use Rattle.behaviour.specs.Run.{zero_word}
use Rattle.retiming.specs.Rewrite.{Timing, root, passed, own_here, old_on}
use Rattle.retiming.specs.Gates.{first_on, last_on, shown_on, steers_on, steers_of, chain_length}
use Rattle.retiming.proofs.GatesLayout.{shown_early, shown_range, steers_none}
use Rattle.retiming.proofs.GatesCounts.{shown_count}
use Rattle.wiring.specs.Wiring.{Ready, wire_count}
use Rattle.wiring.specs.WiringLaws.{one_few, is_root, root_inside, passed_small, by_wires}

-- by the operand's source
unfoldable pub shown_from : Net → Timing → ℕ → ℕ → ℕ
shown_from N f x s = cond (ltb (f.lead (root N s)) f.origin) ((passed N s + own_here N (root N s)) - (f.lead x - f.origin)) 0

unfoldable pub steers_from : Net → Timing → ℕ → ℕ → ℕ
steers_from N f x s = cond (ltb 0 (shown_from N f x s)) ((f.origin - f.lead x) + shown_from N f x s) 0

module _ (N : Net) (f : Timing) (x p : ℕ) where
  abbrev s : ℕ
  s = source N x p

  pub shown_from_lem : shown_on N f (zero_word N) x p ≡ shown_from N f x s
  unfolding shown_from old_on
  shown_from_lem = ⊎_elim (λ l. shown_count N f (zero_word N) x p l ∙ sym (rw (lt-ltb (f.lead (root N s)) f.origin l)))
      (λ l. shown_early N f (zero_word N) x p l ∙ sym (rw (le-ltb (f.lead (root N s)) f.origin l))) (lt_or_le (f.lead (root N s)) f.origin)

  steers_some : 0 < shown_on N f (zero_word N) x p → steers_on N f (zero_word N) x p ≡ last_on N f (zero_word N) x p
  unfolding steers_on
  steers_some h = rw (lt-ltb 0 (shown_on N f (zero_word N) x p) h)

  pub steers_from_lem : steers_on N f (zero_word N) x p ≡ steers_from N f x s
  unfolding steers_from first_on
  steers_from_lem = ⊎_elim
      (λ l. steers_some l ∙ omega (arith, shown_range N f (zero_word N) x p l, shown_from_lem) ∙ sym (ap (λ (b : Bool). cond b ((f.origin - f.lead x) + shown_from N f x s) 0) (lt-ltb 0 (shown_from N f x s) (omega (arith, shown_from_lem)))))
      (λ l. steers_none N f (zero_word N) x p l ∙ sym (ap (λ (b : Bool). cond b ((f.origin - f.lead x) + shown_from N f x s) 0) (le-ltb 0 (shown_from N f x s) (omega (arith, shown_from_lem))))) (lt_or_le 0 (shown_on N f (zero_word N) x p))

-- ---- as the code reads it

module _ {N : Net} {f : Timing} {leads roots passes : List ℕ} (t : Ready N f leads roots passes) {s u x o : ℕ} (h : s < size N) (k : x < size N) (e : u ≡ get_or roots s 0) (oe : o ≡ f.origin) where
  lead-root : get_or leads u 0 ≡ f.lead (root N s)
  lead-root = t.leads_in u (root_inside t h e) ∙ ap f.lead (is_root t h e)

  pub shown_early_read : o ≤ get_or leads u 0 → 0 ≡ shown_from N f x s
  unfolding shown_from
  shown_early_read l = sym (rw (le-ltb (f.lead (root N s)) f.origin (omega (arith, lead-root))))

  pub shown_read : get_or leads u 0 < o → (get_or passes s 0 + one (is_clocked (element_at N u))) - (get_or leads x 0 - o) ≡ shown_from N f x s
  unfolding shown_from own_here
  shown_read l =
      let own : one (is_clocked (element_at N u)) ≡ one (is_clocked (element_at N (root N s))) = ap (λ (v : ℕ). one (is_clocked (element_at N v))) (is_root t h e) in
      let same : (get_or passes s 0 + one (is_clocked (element_at N u))) - (get_or leads x 0 - o) ≡ (passed N s + own_here N (root N s)) - (f.lead x - f.origin) = omega (arith, (t.traced s h).through, own, t.leads_in x k) in
      same ∙ sym (rw (lt-ltb (f.lead (root N s)) f.origin (omega (arith, lead-root))))

  pub shown_few : (get_or passes s 0 + one (is_clocked (element_at N u))) - (get_or leads x 0 - o) ≤ 1025
  shown_few = omega (arith, passed_small t h e, one_few (is_clocked (element_at N u)))

-- what the chain owes to the wire from s to x
module _ (N : Net) (f : Timing) (x s : ℕ) {shown : ℕ} (e : shown ≡ shown_from N f x s) where
  pub steers_zero : shown ≡ 0 → 0 ≡ steers_from N f x s
  unfolding steers_from
  steers_zero z = sym (rw (le-ltb 0 (shown_from N f x s) (omega arith)))

  pub steers_read : (shown ≡ 0 → ⊥) → {o l : ℕ} → o ≡ f.origin → l ≡ f.lead x → (o - l) + shown ≡ steers_from N f x s
  unfolding steers_from
  steers_read z {o} {l} oe le =
      let same : (o - l) + shown ≡ (f.origin - f.lead x) + shown_from N f x s = omega arith in
      same ∙ sym (ap (λ (b : Bool). cond b ((f.origin - f.lead x) + shown_from N f x s) 0) (lt-ltb 0 (shown_from N f x s) (some (shown_from N f x s) (λ q. z (e ∙ q)))))
    where
      some : (n : ℕ) → (n ≡ 0 → ⊥) → 0 < n
      some zero q = absurd (q refl)
      some (suc n) q = omega arith

-- ---- the largest

module _ (N : Net) (f : Timing) where
  pub steers_of_lem : (x : ℕ) → largest (wire_count N f x) (steers_on N f (zero_word N) x) ≡ steers_of N f (zero_word N) x
  unfolding steers_of
  steers_of_lem x = sym (by_wires N f x (λ n. largest n (steers_on N f (zero_word N) x)))

  pub chain_is : largest (size N) (steers_of N f (zero_word N)) ≡ chain_length N f (zero_word N)
  unfolding chain_length
  chain_is = refl

-- one number more
pub largest-more : (g : ℕ → ℕ) (v : ℕ) {most next r : ℕ} → most ≡ largest v g → next ≡ g v → r ≡ max most next → r ≡ largest (v + 1) g
largest-more g v a b c = c ∙ ap₂ max a b ∙ sym (ap (λ (k : ℕ). largest k g) (add-one v))
