-- Laws of what specs/Wires.antt defines. Assumes nothing.
use Rattle.std.specs.Prelude.{◌≡◌, true, false}
use Rattle.std.proofs.Math.Path.{refl, sym, ap, subst}
use Rattle.std.proofs.Common.{◌∙◌, true≢false, not-suc-le-zero, add-zero, add-suc, lit<, lit≤}
use Rattle.std.proofs.Math.Logic.{⊎_elim}
use Rattle.std.proofs.lemmas.Bool.{false≢true}
use Prim.Native.Nat.{ℕ, zero, suc, ◌+◌, ◌-◌, ◌≤◌, ◌<◌, zero-le}
use native.Mathlib.Omega.{arith}
use Rattle.netlist.specs.declared.Element.{Element}
use Rattle.netlist.specs.declared.Element.TheVariants.{Input, Output, Register, Async, Clocked, Gate}
use Rattle.lists.specs.Lists.{one}
use Rattle.lists.proofs.BelowLaws.{true_or_false}
use Rattle.netlist.specs.Net.{Net, size, element_at, width_at, source, operands, contents_at, within_clock, within_few, in_registers, is_register, is_clocked, is_input, is_async, port_of, Behaves, Sourced, Ranked, RankedIn, RegistersFit}
use Rattle.netlist.specs.Reach.{Reads}
use Rattle.retiming.specs.Leads.{async_here, register_here}
use Rattle.retiming.specs.Rewrite.{Timing, root_in, passed_in, root, passed, own_here}
use Rattle.behaviour.proofs.Gives.{gives-cong, register_gives}
use Rattle.netlist.specs.Rank.{Ring, SettlesIn, unsettled}
use Rattle.netlist.proofs.Rank.{unsettled_step, unsettled_less, loopless_settles}
use Rattle.retiming.specs.Wires.{Rooted, ServesKept}

-- ---- classes: what excludes what

register_operand : (e : Element) → is_register e ≡ true → 0 < operands e
register_operand Input h = absurd (false≢true h)
register_operand Output h = lit< tt
register_operand (Register r) h = lit< tt
register_operand (Async m) h = absurd (false≢true h)
register_operand (Clocked m r) h = absurd (false≢true h)
register_operand (Gate o) h = absurd (false≢true h)

class_register : (e : Element) → is_register e ≡ true → 0 < one (is_register e)
class_register e h = rw h (lit< tt)

register_outside : (e : Element) → is_register e ≡ true → within_clock e ≡ 0
register_outside Input h = refl
register_outside Output h = absurd (false≢true h)
register_outside (Register r) h = refl
register_outside (Async m) h = absurd (false≢true h)
register_outside (Clocked m r) h = refl
register_outside (Gate o) h = absurd (false≢true h)

register_not_input : (e : Element) → is_register e ≡ true → is_input e ≡ false
register_not_input Input h = absurd (false≢true h)
register_not_input Output h = refl
register_not_input (Register r) h = refl
register_not_input (Async m) h = refl
register_not_input (Clocked m r) h = refl
register_not_input (Gate o) h = refl

within_free : (e : Element) (p : ℕ) → p < within_clock e → one (is_register e) + one (is_clocked e) ≡ 0
within_free Input p h = refl
within_free Output p h = refl
within_free (Register r) p h = absurd (not-suc-le-zero h)
within_free (Async m) p h = refl
within_free (Clocked m r) p h = absurd (not-suc-le-zero h)
within_free (Gate o) p h = refl

input_free : (e : Element) → is_input e ≡ true → one (is_clocked e) ≡ 0
input_free Input h = refl
input_free Output h = refl
input_free (Register r) h = refl
input_free (Async m) h = refl
input_free (Clocked m r) h = absurd (false≢true h)
input_free (Gate o) h = refl

one_register : (e : Element) → one (is_register e) + one (is_clocked e) ≤ 1
one_register Input = zero-le
one_register Output = zero-le
one_register (Register r) = lit≤ tt
one_register (Async m) = zero-le
one_register (Clocked m r) = lit≤ tt
one_register (Gate o) = zero-le

register_no_rom : (e : Element) → is_register e ≡ true → one (is_async e) ≡ 0
register_no_rom Input h = refl
register_no_rom Output h = refl
register_no_rom (Register r) h = refl
register_no_rom (Async m) h = absurd (false≢true h)
register_no_rom (Clocked m r) h = refl
register_no_rom (Gate o) h = refl

module _ (N : Net) where
  pub rom-zero : (s : ℕ) → is_register (element_at N s) ≡ true → async_here N s ≡ 0
  unfolding async_here
  rom-zero s e = register_no_rom (element_at N s) e

  root_register : (k s : ℕ) → is_register (element_at N s) ≡ true → root_in N (suc k) s ≡ root_in N k (source N s 0)
  unfolding root_in
  root_register k s e = rw e

  root_other : (k s : ℕ) → is_register (element_at N s) ≡ false → root_in N k s ≡ s
  unfolding root_in
  root_other zero s e = refl
  root_other (suc k) s e = rw e

  passed_register : (k s : ℕ) → is_register (element_at N s) ≡ true → passed_in N (suc k) s ≡ suc (passed_in N k (source N s 0))
  unfolding passed_in
  passed_register k s e = rw e

  passed_other : (k s : ℕ) → is_register (element_at N s) ≡ false → passed_in N k s ≡ 0
  unfolding passed_in
  passed_other zero s e = refl
  passed_other (suc k) s e = rw e

  root-zero : (s : ℕ) → root_in N 0 s ≡ s
  unfolding root_in
  root-zero s = refl

  passed-zero : (s : ℕ) → passed_in N 0 s ≡ 0
  unfolding passed_in
  passed-zero s = refl

  none_passed_in : (k s : ℕ) → 0 < k → passed_in N k s ≡ 0 → root_in N k s ≡ s
  none_passed_in zero s h e = absurd (not-suc-le-zero h)
  none_passed_in (suc k) s h e =
      ⊎_elim (λ t. absurd (omega (arith, sym (passed_register k s t) ∙ e))) (λ t. root_other (suc k) s t) (true_or_false (is_register (element_at N s)))

  -- a wire with no register comes straight from its root
  pub none_passed : (s : ℕ) → s < size N → passed N s ≡ 0 → root N s ≡ s
  unfolding root passed
  none_passed s h e = none_passed_in (size N) s (omega arith) e

module _ (N : Net) (sourced : Sourced N) where
  pub behind : (s : ℕ) → s < size N → is_register (element_at N s) ≡ true → source N s 0 < size N
  unfolding Sourced
  behind s h e = sourced s 0 h (register_operand (element_at N s) e)

  root_inside : (k s : ℕ) → s < size N → root_in N k s < size N
  root_inside zero s h = rw (root-zero N s) h
  root_inside (suc k) s h =
      ⊎_elim (λ e. rw (root_register N k s e) (root_inside k (source N s 0) (behind s h e))) (λ e. rw (root_other N (suc k) s e) h) (true_or_false (is_register (element_at N s)))

  pub root_within : (s : ℕ) → s < size N → root N s < size N
  unfolding root
  root_within s h = root_inside (size N) s h

  -- a wire is as wide at its end as at its root
  root_width : RegistersFit N → (k s : ℕ) → s < size N → width_at N (root_in N k s) ≡ width_at N s
  unfolding RegistersFit
  root_width fit zero s h = ap (width_at N) (root-zero N s)
  root_width fit (suc k) s h =
      ⊎_elim (λ e. ap (width_at N) (root_register N k s e) ∙ root_width fit k (source N s 0) (behind s h e) ∙ fit s h e)
      (λ e. ap (width_at N) (root_other N (suc k) s e)) (true_or_false (is_register (element_at N s)))

  pub width_root : RegistersFit N → (s : ℕ) → s < size N → width_at N (root N s) ≡ width_at N s
  unfolding root
  width_root fit s h = root_width fit (size N) s h

  -- ---- Delay

  module _ (ins B : ℕ → ℕ → ℕ) (hB : Behaves N ins B) where
    pub register_after : (s t : ℕ) → s < size N → is_register (element_at N s) ≡ true → B (suc t) s ≡ B t (source N s 0)
    unfolding Behaves
    register_after s t h e =
        hB (suc t) s h ∙ register_gives (contents_at N s) (width_at N s) (λ p. width_at N (source N s p)) (λ q. ins q (port_of N s)) (λ p q. B q (source N s p)) t (element_at N s) e

    delay_in : (k s : ℕ) → s < size N → (t : ℕ) → B (t + passed_in N k s) s ≡ B t (root_in N k s)
    delay_in zero s h t = rw (root-zero N s, passed-zero N s, add-zero t)
    delay_in (suc k) s h t =
        ⊎_elim
        (λ e. rw (root_register N k s e, passed_register N k s e, add-suc t (passed_in N k (source N s 0)))
        (register_after s (t + passed_in N k (source N s 0)) h e ∙ delay_in k (source N s 0) (behind s h e) t))
        (λ e. rw (root_other N (suc k) s e, passed_other N (suc k) s e, add-zero t)) (true_or_false (is_register (element_at N s)))

    pub delay : (s : ℕ) → s < size N → (t : ℕ) → B (t + passed N s) s ≡ B t (root N s)
    unfolding root passed
    delay s h t = delay_in (size N) s h t

module _ (N : Net) (sourced : Sourced N) where
  root-unsettled : (k s : ℕ) → is_register (element_at N (root_in N k s)) ≡ true → unsettled in_registers N (suc k) s ≡ true
  unfolding root_in unsettled
  root-unsettled zero s e = unsettled_step in_registers N 0 s 0 (class_register (element_at N s) e) refl
  root-unsettled (suc k) s e =
      ⊎_elim
      (λ t. unsettled_step in_registers N (suc k) s 0 (class_register (element_at N s) t)
      (root-unsettled k (source N s 0) (subst (λ (v : ℕ). is_register (element_at N v) ≡ true) (root_register N k s t) e)))
      (λ t. absurd (false≢true (sym t ∙ subst (λ (v : ℕ). is_register (element_at N v) ≡ true) (root_other N (suc k) s t) e))) (true_or_false (is_register (element_at N s)))

  pub ringless_rooted : ((v : ℕ) → Ring N v → ⊥) → Rooted N
  unfolding Rooted root SettlesIn
  ringless_rooted none s h =
      ⊎_elim
      (λ t. absurd (true≢false (sym (unsettled_less in_registers N (size N) s (root-unsettled (size N) s t)) ∙ loopless_settles in_registers N sourced none s h)))
      (λ t. t) (true_or_false (is_register (element_at N (root N s))))

-- ---- a register's wire goes on at its source

module _ (N : Net) where
  -- what has led back to no register stays there
  root-stays : (k s : ℕ) → is_register (element_at N (root_in N k s)) ≡ false → (root_in N (suc k) s ≡ root_in N k s) × (passed_in N (suc k) s ≡ passed_in N k s)
  root-stays zero s e =
      let o : is_register (element_at N s) ≡ false = subst (λ (v : ℕ). is_register (element_at N v) ≡ false) (root-zero N s) e in
      (root_other N 1 s o ∙ sym (root-zero N s), passed_other N 1 s o ∙ sym (passed-zero N s))
  root-stays (suc k) s e =
      ⊎_elim
      (λ t. let r = root-stays k (source N s 0) (subst (λ (v : ℕ). is_register (element_at N v) ≡ false) (root_register N k s t) e) in
      (root_register N (suc k) s t ∙ r.0 ∙ sym (root_register N k s t), passed_register N (suc k) s t ∙ ap suc r.1 ∙ sym (passed_register N k s t)))
      (λ t. (root_other N (suc (suc k)) s t ∙ sym (root_other N (suc k) s t), passed_other N (suc (suc k)) s t ∙ sym (passed_other N (suc k) s t)))
      (true_or_false (is_register (element_at N s)))

  pub wire_next : Rooted N → (s : ℕ) → s < size N → is_register (element_at N s) ≡ true → (root N s ≡ root N (source N s 0)) × (passed N s ≡ suc (passed N (source N s 0)))
  unfolding Rooted root passed
  wire_next rooted s h e = go (size N) refl
    where
      go : (n : ℕ) → size N ≡ n → (root_in N (size N) s ≡ root_in N (size N) (source N s 0)) × (passed_in N (size N) s ≡ suc (passed_in N (size N) (source N s 0)))
      go zero z = absurd (not-suc-le-zero (subst (λ (n : ℕ). s < n) z h))
      go (suc k) z =
          rw z (let r = root-stays k (source N s 0) (subst (λ (v : ℕ). is_register (element_at N v) ≡ false) (root_register N k s e) (subst (λ (n : ℕ). is_register (element_at N (root_in N n s)) ≡ false) z (rooted s h))) in
          (root_register N k s e ∙ sym r.0, passed_register N k s e ∙ ap suc (sym r.1)))

  pub wire_none : (s : ℕ) → is_register (element_at N s) ≡ false → (root N s ≡ s) × (passed N s ≡ 0)
  unfolding root passed
  wire_none s e = (root_other N (size N) s e, passed_other N (size N) s e)

-- ---- numbers that serve every step serve every wire

module _ (N : Net) (sourced : Sourced N) (f : Timing) (serves : ServesKept N f) where
  -- from a register to what it reads
  serves_behind : (s : ℕ) → s < size N → is_register (element_at N s) ≡ true → f.keeps s ≡ true → (f.keeps (source N s 0) ≡ true) × (async_here N (source N s 0) + f.lead s ≤ f.lead (source N s 0) + 1)
  unfolding ServesKept register_here
  serves_behind s h e k =
      rw e at (serves s (source N s 0) (record { operand = 0; inside = h; used = register_operand (element_at N s) e; from = refl }) k)

  kept_in : (k s : ℕ) → s < size N → f.keeps s ≡ true → f.keeps (root_in N k s) ≡ true
  kept_in zero s h a = rw (root-zero N s) a
  kept_in (suc k) s h a =
      ⊎_elim (λ e. rw (root_register N k s e) (kept_in k (source N s 0) (behind N sourced s h e) (serves_behind s h e a).0)) (λ e. rw (root_other N (suc k) s e) a) (true_or_false (is_register (element_at N s)))

  pub kept_root : (s : ℕ) → s < size N → f.keeps s ≡ true → f.keeps (root N s) ≡ true
  unfolding root
  kept_root s h a = kept_in (size N) s h a

  wire_in : (k s a b : ℕ) → s < size N → f.keeps s ≡ true → async_here N s + a ≤ f.lead s + b → async_here N (root_in N k s) + a ≤ passed_in N k s + f.lead (root_in N k s) + b
  wire_in zero s a b h y l = rw (root-zero N s, passed-zero N s) (omega arith)
  wire_in (suc k) s a b h y l =
      ⊎_elim
      (λ e. rw (root_register N k s e, passed_register N k s e)
      (omega (arith, wire_in k (source N s 0) a (suc b) (behind N sourced s h e) (serves_behind s h e y).0 (omega (arith, rom-zero N s e, (serves_behind s h e y).1)))))
      (λ e. rw (root_other N (suc k) s e, passed_other N (suc k) s e) (omega arith)) (true_or_false (is_register (element_at N s)))

  module _ (x p : ℕ) (h : x < size N) (y : f.keeps x ≡ true) (q : p < operands (element_at N x)) where
    reads_it : Reads N x (source N x p)
    reads_it = record { operand = p; inside = h; used = q; from = refl }

    -- what a node that stays reads stays, and so does the root of its wire
    pub source_kept : f.keeps (source N x p) ≡ true
    unfolding ServesKept
    source_kept = (serves x (source N x p) reads_it y).0

    pub root_kept : f.keeps (root N (source N x p)) ≡ true
    unfolding Sourced
    root_kept = kept_root (source N x p) (sourced x p h q) source_kept

    -- a wire to a reader that is no register has its registers, and a ROM at least one
    pub wire_serves : is_register (element_at N x) ≡ false → async_here N (root N (source N x p)) + f.lead x ≤ passed N (source N x p) + f.lead (root N (source N x p))
    unfolding root passed ServesKept register_here Sourced
    wire_serves e =
        omega (
          arith,
          wire_in (size N) (source N x p) (f.lead x) 0 (sourced x p h q) source_kept (rw e at (serves x (source N x p) reads_it y).1),
        )

-- ---- Independence: two behaviours, under whatever inputs

module _ (N : Net) (rank : ℕ → ℕ) (f : Timing) (sourced : Sourced N) (ranked : Ranked N rank) (serves : ServesKept N f)
    (ports : (v : ℕ) → v < size N → is_input (element_at N v) ≡ true → f.lead v ≡ f.origin)
    (ins jns B C : ℕ → ℕ → ℕ) (hB : Behaves N ins B) (hC : Behaves N jns C) where
  -- a source is early enough for its reader
  source_early : (v p : ℕ) → v < size N → f.keeps v ≡ true → p < operands (element_at N v) → f.lead v ≤ f.lead (source N v p) + one (is_register (element_at N v))
  unfolding ServesKept register_here
  source_early v p h y q = omega (arith, (serves v (source N v p) (record { operand = p; inside = h; used = q; from = refl }) y).1)

  kept_next : (v p : ℕ) → v < size N → f.keeps v ≡ true → p < operands (element_at N v) → f.keeps (source N v p) ≡ true
  kept_next v p h y q = source_kept N sourced f serves v p h y q

  early : (t k : ℕ) → ((s v : ℕ) → s < t → v < size N → f.keeps v ≡ true → s < own_here N v + (f.lead v - f.origin) → B s v ≡ C s v)
      → (v : ℕ) → v < size N → f.keeps v ≡ true → rank v < k → t < own_here N v + (f.lead v - f.origin) → B t v ≡ C t v
  unfolding Behaves Sourced RankedIn own_here
  early t zero earlier v h y l q = absurd (not-suc-le-zero l)
  early t (suc k) earlier v h y l q =
      hB t v h
      ∙ gives-cong (contents_at N v) (width_at N v) (λ p. width_at N (source N v p)) (λ p. width_at N (source N v p)) (λ s. ins s (port_of N v)) (λ s. jns s (port_of N v))
      (λ p s. B s (source N v p)) (λ p s. C s (source N v p)) t (element_at N v) (λ p a. refl)
      (λ e. absurd (omega (arith, ports v h e, input_free (element_at N v) e)))
      (λ p q'. let a : p < operands (element_at N v) = omega (arith, within_few (element_at N v)) in
      early t k earlier (source N v p) (sourced v p h a) (kept_next v p h y a) (omega (arith, ranked v p h q')) (omega (arith, within_free (element_at N v) p q', source_early v p h y a)))
      (λ p a s b. earlier s (source N v p) b (sourced v p h a) (kept_next v p h y a) (omega (arith, one_register (element_at N v), source_early v p h y a)))
      ∙ sym (hC t v h)

  early_up_to : (t s v : ℕ) → s < t → v < size N → f.keeps v ≡ true → s < own_here N v + (f.lead v - f.origin) → B s v ≡ C s v
  early_up_to zero s v l h y q = absurd (not-suc-le-zero l)
  early_up_to (suc t) s v l h y q = early s (suc (rank v)) (λ r u m k z a. early_up_to t r u (omega arith) k z a) v h y (omega arith) q

  -- a node's first words, as many as its lead (one more for a clocked ROM)
  pub independent_node : (t v : ℕ) → v < size N → f.keeps v ≡ true → t < own_here N v + (f.lead v - f.origin) → B t v ≡ C t v
  independent_node t v h y q = early_up_to (suc t) t v (omega arith) h y q

  reset_alike : (s : ℕ) → s < size N → is_register (element_at N s) ≡ true → B 0 s ≡ C 0 s
  unfolding Behaves
  reset_alike v h e =
      hB 0 v h
      ∙ gives-cong (contents_at N v) (width_at N v) (λ p. width_at N (source N v p)) (λ p. width_at N (source N v p)) (λ s. ins s (port_of N v)) (λ s. jns s (port_of N v))
      (λ p s. B s (source N v p)) (λ p s. C s (source N v p)) 0 (element_at N v) (λ p a. refl)
      (λ a. absurd (false≢true (sym (register_not_input (element_at N v) e) ∙ a)))
      (λ p a. absurd (omega (arith, register_outside (element_at N v) e)))
      (λ p a s b. absurd (not-suc-le-zero b))
      ∙ sym (hC 0 v h)

  independent_in : (k s : ℕ) → s < size N → f.keeps s ≡ true → (t : ℕ) → t < passed_in N k s + (own_here N (root_in N k s) + (f.lead (root_in N k s) - f.origin)) → B t s ≡ C t s
  independent_in zero s h y t l =
      independent_node t s h y (omega (arith, rw (root-zero N s, passed-zero N s) at l))
  independent_in (suc k) s h y zero l =
      ⊎_elim (λ e. reset_alike s h e) (λ e. independent_node zero s h y (omega (arith, rw (root_other N (suc k) s e, passed_other N (suc k) s e) at l))) (true_or_false (is_register (element_at N s)))
  independent_in (suc k) s h y (suc t) l =
      ⊎_elim
      (λ e. register_after N sourced ins B hB s t h e
      ∙ independent_in k (source N s 0) (behind N sourced s h e) (serves_behind N sourced f serves s h e y).0 t (omega (arith, rw (root_register N k s e, passed_register N k s e) at l))
      ∙ sym (register_after N sourced jns C hC s t h e))
      (λ e. independent_node (suc t) s h y (omega (arith, rw (root_other N (suc k) s e, passed_other N (suc k) s e) at l))) (true_or_false (is_register (element_at N s)))

  -- the first words on a wire: as many as it has registers, a clocked ROM's own one included, and its root's lead where that is not late
  pub independent : (s : ℕ) → s < size N → f.keeps s ≡ true → (t : ℕ) → t < passed N s + (own_here N (root N s) + (f.lead (root N s) - f.origin)) → B t s ≡ C t s
  unfolding root passed
  independent s h y t l = independent_in (size N) s h y t l
