-- Laws of what specs/Candidate.antt defines. Assumes nothing.
use Rattle.std.specs.Prelude.{◌≡◌, refl, ◌⊎◌, false, cond, List, [], ◌∷◌, length, get_or}
use Rattle.std.proofs.Math.Path.{sym, ap}
use Rattle.std.proofs.Common.{◌∙◌, subst, true≢false, not-suc-le-zero, zero-add, lt→ltb, ltb→lt, lit≤}
use Rattle.std.proofs.Math.Logic.{inl, inr, ⊎_elim}
use Rattle.std.proofs.Math.Bool.{true}
use Rattle.std.proofs.lemmas.Bool.{false≢true}
use Prim.Native.Nat.{ℕ, zero, suc, ◌+◌, ◌-◌, ◌≤◌, ◌<◌, zero-le}
use native.Mathlib.Omega.{arith}
use Rattle.std.proofs.Math.ListN.{length-map}
use Rattle.std.proofs.Math.Dec.{ltb}
use Rattle.words.specs.declared.Op.TheVariants.{Constant, Not, And, Or, Xor, Add, Subtract, Equal, Less, Choose, Part, Join}
use Rattle.netlist.specs.declared.Memory.{Memory}
use Rattle.netlist.specs.declared.Element.{Element}
use Rattle.netlist.specs.declared.Element.TheVariants.{Input, Output, Register, Async, Clocked, Gate}
use Rattle.netlist.specs.declared.Node.{Node}
use Rattle.lists.specs.Lists.{one}
use Rattle.lists.proofs.BelowLaws.{T→true, true→T, true_or_false, lt_or_le, get_or_map-lt}
use Rattle.netlist.specs.Net.{Net, size, node_at, nowhere, element_at, width_at, source, operands, gives, delayed, arity, table_no, retabled, held_at, held_by, no_table, spelled, table_of, contents_in, contents_at, within_clock, in_clock, is_register, is_input, is_clocked, is_async, is_memory, Behaves, Sourced}
use Rattle.netlist.proofs.Memories.{memory_kinds}
use Rattle.retiming.specs.Leads.{async_here}
use Rattle.retiming.specs.Rewrite.{Timing, word_from, old_on, Entry, root, passed, own_here, memory_at, registers_on, count_on, new_tables, new_table, reset_word, copy_on, number_of, along, new_element}
use Rattle.retiming.specs.Gates.{Spot, Old, first_on, last_on, shown_on, spots, spot_number, picked, gated_source, spot_node, gated_with}
use Rattle.behaviour.proofs.Exists.{rom_held}
use Rattle.netlist.specs.Rank.{rounds}
use Rattle.netlist.proofs.Rank.{rounds_ranked}
use Rattle.retiming.proofs.Wires.{width_root, delay, wire_serves, source_kept, independent}
use Rattle.retiming.specs.Layout.{Stands}
use Rattle.retiming.proofs.LayoutLaws.{along_reg, along-end, along_sound}
use Rattle.retiming.specs.GatesLayout.{no_spot, SpotSound, SpotNumbered}
use Rattle.retiming.proofs.GatesLayout.{spot-numbered, picked-gate, picked_wire, picked_sound, shown_range, shown_none}
use Rattle.retiming.specs.Candidate.{Retimes, value, spot_value, Good, Valid, SpotValid, sources, Carries, SpotCarries}

pub word_before : (o : ℕ) (B : ℕ → ℕ → ℕ) (n v : ℕ) → n < o → word_from o B n v ≡ 0
unfolding word_from
word_before o B n v l = let e : ltb n o ≡ true = T→true (lt→ltb n o l) in rw e

pub word_after : (o : ℕ) (B : ℕ → ℕ → ℕ) (n v : ℕ) → o ≤ n → word_from o B n v ≡ B (n - o) v
unfolding word_from
word_after o B n v l = ⊎_elim (λ t. absurd (omega (arith, ltb→lt n o (true→T t)))) (λ t. rw t) (true_or_false (ltb n o))

-- ---- a node of the rewritten netlist

module _ (N : Net) (f : Timing) (Z : ℕ → ℕ → ℕ) where
  pub size-new : size (gated_with N f Z) ≡ length (spots N f Z)
  unfolding gated_with
  size-new = length-map (spots N f Z) (spot_node N f Z)

  pub node_new : (i : ℕ) → i < length (spots N f Z) → node_at (gated_with N f Z) i ≡ spot_node N f Z (get_or (spots N f Z) i no_spot)
  unfolding gated_with node_at
  node_new i h = get_or_map-lt (spot_node N f Z) (spots N f Z) i no_spot nowhere h

  pub node_numbered : (sp : Spot) → SpotSound N f Z sp → node_at (gated_with N f Z) (spot_number N f Z sp) ≡ spot_node N f Z sp
  node_numbered sp s = let n : SpotNumbered N f Z sp = spot-numbered N f Z sp s in node_new (spot_number N f Z sp) n.within ∙ ap (spot_node N f Z) n.at

-- a memory begun F clocks late, over what it then holds
pub held_later : (k : Memory) (m : ℕ) (M : List ℕ) (d : ℕ → ℕ → ℕ) (F s : ℕ) → held_at (retabled k m) (held_at k M d F) (λ p r. d p (r + F)) s ≡ held_at k M d (s + F)
held_later k m M d F s = refl

arity-new : (k : Memory) (m : ℕ) → arity (retabled k m) ≡ arity k
arity-new k m = refl

pub table-retabled : (k : Memory) (m : ℕ) → table_no (retabled k m) ≡ m
table-retabled k m = refl

arity_few : (k : Memory) → arity k ≤ 3
arity_few k = lit≤ tt

-- ---- an element, rewritten: what it gives from operands that come F clocks early, counted from O

module _ (M M' : List ℕ) (w : ℕ) (ws : ℕ → ℕ) (i i' : ℕ → ℕ) (d : ℕ → ℕ → ℕ) (b : ℕ → ℕ) (m c F O : ℕ) where
  pub early_gives : (e : Element) → is_register e ≡ false → ((t : ℕ) → b t ≡ gives M e w ws i d t)
      → (t : ℕ) → ((is_memory e ≡ true) × (t ≡ 0)) ⊎ (O + one (is_memory e) ≤ t + F) → (is_input e ≡ true → i ((t + F) - O) ≡ i' t)
      → (is_memory e ≡ true → (s : ℕ) → held_by e M d ((s + F) - O) ≡ held_by (new_element e m c) M' (λ p r. d p ((r + F) - O)) s)
      → cond (is_memory e) (delayed c (λ s. b ((s + (one (is_clocked e) + F)) - O)) t) (b ((t + F) - O)) ≡ gives M' (new_element e m c) w ws i' (λ p s. d p ((s + F) - O)) t
  early_gives Input r hb t a hi hm = hb ((t + F) - O) ∙ hi refl
  early_gives Output r hb t a hi hm = hb ((t + F) - O)
  early_gives (Register q) r hb t a hi hm = absurd (true≢false r)
  early_gives (Async k) r hb zero a hi hm = refl
  early_gives (Async k) r hb (suc t) a hi hm = ap b (omega arith) ∙ hb ((t + F) - O) ∙ ap (λ (l : List ℕ). get_or l (d 0 ((t + F) - O)) 0) (hm refl t)
  early_gives (Clocked k q) r hb zero a hi hm = refl
  early_gives (Clocked k q) r hb (suc t) a hi hm = ap b (later a) ∙ hb (suc ((t + F) - O)) ∙ ap (λ (l : List ℕ). get_or l (d 0 ((t + F) - O)) 0) (hm refl t)
    where
      later : ((true ≡ true) × (suc t ≡ 0)) ⊎ (O + 1 ≤ suc t + F) → (t + (1 + F)) - O ≡ suc ((t + F) - O)
      later (inl z) = absurd (omega (arith, z.1))
      later (inr l) = omega arith
  early_gives (Gate o) r hb t a hi hm = hb ((t + F) - O)

-- of the rewritten elements only memories read a clock late
pub outside_new : (e : Element) (m c p : ℕ) → is_register e ≡ false → within_clock (new_element e m c) ≡ 0 → p < operands (new_element e m c) → is_memory e ≡ true
outside_new Input m c p r h q = absurd (not-suc-le-zero q)
outside_new Output m c p r h q = absurd (omega (arith, h))
outside_new (Register v) m c p r h q = absurd (true≢false r)
outside_new (Async k) m c p r h q = refl
outside_new (Clocked k v) m c p r h q = refl
outside_new (Gate o) m c p r h q = absurd (omega (arith, h, q))

pub within_new : (e : Element) (m c p : ℕ) → p < within_clock (new_element e m c) → (is_memory e ≡ false) × (p < within_clock e)
within_new Input m c p h = (refl, h)
within_new Output m c p h = (refl, h)
within_new (Register r) m c p h = (refl, h)
within_new (Async k) m c p h = absurd (not-suc-le-zero h)
within_new (Clocked k r) m c p h = absurd (not-suc-le-zero h)
within_new (Gate o) m c p h = (refl, h)

pub few_operands : (e : Element) → operands e ≤ 3
few_operands Input = lit≤ tt
few_operands Output = lit≤ tt
few_operands (Register r) = lit≤ tt
few_operands (Async m) = arity_few m
few_operands (Clocked m r) = arity_few m
few_operands (Gate (Constant c)) = lit≤ tt
few_operands (Gate Not) = lit≤ tt
few_operands (Gate And) = lit≤ tt
few_operands (Gate Or) = lit≤ tt
few_operands (Gate Xor) = lit≤ tt
few_operands (Gate Add) = lit≤ tt
few_operands (Gate Subtract) = lit≤ tt
few_operands (Gate Equal) = lit≤ tt
few_operands (Gate Less) = lit≤ tt
few_operands (Gate Choose) = lit≤ tt
few_operands (Gate (Part b)) = lit≤ tt
few_operands (Gate Join) = lit≤ tt

pub operands-new : (e : Element) (m c : ℕ) → operands (new_element e m c) ≡ operands e
operands-new Input m c = refl
operands-new Output m c = refl
operands-new (Register r) m c = refl
operands-new (Async k) m c = arity-new k m
operands-new (Clocked k r) m c = arity-new k m
operands-new (Gate o) m c = refl

pub table_of_new : (e : Element) (m c : ℕ) → is_memory e ≡ true → table_of (new_element e m c) ≡ m
table_of_new Input m c h = absurd (false≢true h)
table_of_new Output m c h = absurd (false≢true h)
table_of_new (Register r) m c h = absurd (false≢true h)
table_of_new (Async k) m c h = table-retabled k m
table_of_new (Clocked k r) m c h = table-retabled k m
table_of_new (Gate o) m c h = absurd (false≢true h)

no_rom_kind : (e : Element) → is_memory e ≡ false → one (is_clocked e) ≡ 0
no_rom_kind Input h = refl
no_rom_kind Output h = refl
no_rom_kind (Register r) h = refl
no_rom_kind (Async m) h = refl
no_rom_kind (Clocked m r) h = absurd (true≢false h)
no_rom_kind (Gate o) h = refl

-- ---- the sources of a new node

pub three-sources : (g : ℕ → ℕ) (p : ℕ) → p < 3 → get_or (g 0 ∷ g 1 ∷ g 2 ∷ []) p 0 ≡ g p
three-sources g zero l = refl
three-sources g (suc zero) l = refl
three-sources g (suc (suc zero)) l = refl
three-sources g (suc (suc (suc p))) l = absurd (omega arith)

module _ (N : Net) (f : Timing) (Z : ℕ → ℕ → ℕ) (u c : ℕ) where
  pub used_new : (p : ℕ) → p < operands (new_element (element_at N u) (new_table N f Z u) c) → p < operands (element_at N u)
  used_new p q = subst (λ (k : ℕ). p < k) (operands-new (element_at N u) (new_table N f Z u) c) q

  pub source-new : (p : ℕ) → p < operands (new_element (element_at N u) (new_table N f Z u) c) → sources N f Z u c p ≡ spot_number N f Z (picked N f Z u c p 0)
  unfolding sources gated_source
  source-new p q =
      let l : p < operands (element_at N u) = used_new p q in
      three-sources (gated_source N f Z u c) p (omega (arith, few_operands (element_at N u)))
      ∙ (let e : ltb p (operands (element_at N u)) ≡ true = T→true (lt→ltb p (operands (element_at N u)) l) in rw e)

-- ---- the counts of a wire

module _ (N : Net) (f : Timing) (Z : ℕ → ℕ → ℕ) (ok : Retimes N f) (x c p : ℕ) (s : Stands N f Z x c) (q : p < operands (element_at N x)) where
  abbrev back : ℕ
  back = source N x p

  served : one (is_async (element_at N (root N back))) + f.lead x ≤ passed N back + f.lead (root N back)
  unfolding async_here
  served = wire_serves N ok.sourced f ok.serves x p s.inside s.kept q s.other

  -- behind a ROM: one of the registers is its own
  pub count_rom : memory_at N (root N back) ≡ true → suc (count_on N f Z x p + f.lead x) ≡ old_on N f Z x p + f.lead (root N back)
  unfolding count_on registers_on memory_at own_here old_on
  count_rom t = rw t (omega (arith, served, memory_kinds (element_at N (root N back)), ap one t))

  pub count_other : memory_at N (root N back) ≡ false → (count_on N f Z x p + f.lead x ≡ passed N back + f.lead (root N back)) × (old_on N f Z x p ≡ passed N back)
  unfolding count_on registers_on memory_at own_here old_on
  count_other t = rw t (omega (arith, served, no_rom_kind (element_at N (root N back)) t), omega (arith, no_rom_kind (element_at N (root N back)) t))

  -- every register of the wire is early: its reset word does not depend on the inputs
  pub count_early : (j : ℕ) → j < count_on N f Z x p → j + f.lead x < old_on N f Z x p + f.lead (root N back)
  count_early j l =
      ⊎_elim (λ t. omega (arith, count_rom t)) (λ t. omega (arith, (count_other t).0, (count_other t).1)) (true_or_false (memory_at N (root N back)))

-- ---- what is carried along a wire

module _ (N : Net) (f : Timing) (ok : Retimes N f) (ins jns B Z : ℕ → ℕ → ℕ) (hB : Behaves N ins B) (hZ : Behaves N jns Z) where
  module _ (x c p : ℕ) (s : Stands N f Z x c) (q : p < operands (element_at N x)) where
    source_at : source N x p < size N
    unfolding Sourced
    source_at = ok.sourced x p s.inside q

    -- the words on a wire that the rewritten netlist holds at reset are those of any run
    pub word_early : (n : ℕ) → n < old_on N f Z x p + (f.origin + (f.lead (root N (source N x p)) - f.origin)) → word_from f.origin Z n (source N x p) ≡ word_from f.origin B n (source N x p)
    unfolding old_on
    word_early n l =
        ⊎_elim (λ k. word_before f.origin Z n (source N x p) k ∙ sym (word_before f.origin B n (source N x p) k))
        (λ k. word_after f.origin Z n (source N x p) k
        ∙ sym (independent N (rounds in_clock N) f ok.sourced (rounds_ranked in_clock N ok.sourced ok.settles) ok.serves ok.inputs ins jns B Z hB hZ
        (source N x p) source_at (source_kept N ok.sourced f ok.serves x p s.inside s.kept q) (n - f.origin) (omega arith))
        ∙ sym (word_after f.origin B n (source N x p) k))
        (lt_or_le n f.origin)

    delayed_at : (t n : ℕ) → f.origin ≤ n → n - f.origin ≡ t + passed N (source N x p) → B t (root N (source N x p)) ≡ word_from f.origin B n (source N x p)
    delayed_at t n l e = sym (word_after f.origin B n (source N x p) l ∙ ap (λ (k : ℕ). B k (source N x p)) e ∙ delay N ok.sourced ins B hB (source N x p) source_at t)

    end-rom : memory_at N (root N (source N x p)) ≡ true → (t : ℕ) → Good N f Z x p (t + (count_on N f Z x p + f.lead x))
        → Carries N f ok ins jns B Z hB hZ x c p s q t (t + (count_on N f Z x p + f.lead x)) (Entry (root N (source N x p)) (copy_on N f Z x p))
    unfolding value copy_on reset_word Good Valid old_on
    end-rom e zero g =
        (inl (e, refl), rw e (word_early (count_on N f Z x p + f.lead x) (omega (arith, count_rom N f Z ok x c p s q e)) ∙ ap (λ (k : ℕ). word_from f.origin B k (source N x p)) (sym (zero-add _))))
    end-rom e (suc t) (inl l) = absurd (omega (arith, count_rom N f Z ok x c p s q e))
    end-rom e (suc t) (inr l) = (
      inr (rw e (omega (arith, count_rom N f Z ok x c p s q e))),
      rw e (delayed_at ((t + (own_here N (root N (source N x p)) + f.lead (root N (source N x p)))) - f.origin) (suc t + (count_on N f Z x p + f.lead x))
          (omega arith) (omega (arith, count_rom N f Z ok x c p s q e))),
    )

    end_other : memory_at N (root N (source N x p)) ≡ false → (t : ℕ) → Good N f Z x p (t + (count_on N f Z x p + f.lead x))
        → Carries N f ok ins jns B Z hB hZ x c p s q t (t + (count_on N f Z x p + f.lead x)) (Entry (root N (source N x p)) (copy_on N f Z x p))
    unfolding value Good Valid
    end_other e t (inl l) = absurd (omega (arith, (count_other N f Z ok x c p s q e).0, (count_other N f Z ok x c p s q e).1))
    end_other e t (inr l) = (
      inr (rw e (omega (arith, (count_other N f Z ok x c p s q e).0, (count_other N f Z ok x c p s q e).1))),
      rw e (delayed_at ((t + f.lead (root N (source N x p))) - f.origin) (t + (count_on N f Z x p + f.lead x))
          (omega arith) (omega (arith, (count_other N f Z ok x c p s q e).0, (count_other N f Z ok x c p s q e).1))),
    )

    -- the j-th place of a wire, counted from the reader, carries the old wire's word j + lead x clocks early
    pub carries : (j t : ℕ) → j ≤ count_on N f Z x p → Good N f Z x p (t + (j + f.lead x)) → Carries N f ok ins jns B Z hB hZ x c p s q t (t + (j + f.lead x)) (along N f Z x c p j)
    unfolding value Valid
    carries j t l g =
        ⊎_elim (λ k. rw (along_reg N f Z x c p j k) (g, refl))
        (λ k. let e : j ≡ count_on N f Z x p = omega arith in
        rw (along-end N f Z x c p j k) (rw e (⊎_elim (λ r. end-rom r t (rw e at g)) (λ r. end_other r t (rw e at g)) (true_or_false (memory_at N (root N (source N x p)))))))
        (lt_or_le j (count_on N f Z x p))

    -- behind the last gate
    pub last_carries : (t : ℕ) → Good N f Z x p (t + f.lead x) → SpotCarries N f ok ins jns B Z hB hZ x c p s q t (t + f.lead x) (Old (along N f Z x c p 0))
    unfolding SpotValid spot_value
    last_carries t g =
        let e : t + f.lead x ≡ t + (0 + f.lead x) = omega arith in
        rw e (carries 0 t zero-le (rw e at g))

    -- what the reader receives, from the clock on where it starts
    pub operand_carries : (t : ℕ) → f.origin ≤ t + f.lead x → SpotCarries N f ok ins jns B Z hB hZ x c p s q t (t + f.lead x) (picked N f Z x c p 0)
    unfolding Good SpotValid spot_value first_on last_on
    operand_carries t l =
        ⊎_elim (λ k. rw (picked-gate N f Z x c p 0 k) (tt, ap (λ (n : ℕ). word_from f.origin B n (source N x p)) (omega arith)))
        (λ k. rw (picked_wire N f Z x c p 0 k) (last_carries t (⊎_elim
        (λ (a : f.origin ≤ f.lead (root N (source N x p))). ⊎_elim (λ m. inl m) (λ m. inr (omega arith)) (lt_or_le (t + f.lead x) (old_on N f Z x p + f.lead (root N (source N x p)))))
        (λ (a : (old_on N f Z x p + f.origin) - f.lead x ≤ f.origin - f.lead x). inr (omega arith)) (shown_none N f Z x p k))))
        (lt_or_le 0 (shown_on N f Z x p))

    -- what a gate passes on once its clock is over
    pub next_carries : (k t : ℕ) → k < shown_on N f Z x p → first_on N f Z x + k < t → SpotCarries N f ok ins jns B Z hB hZ x c p s q t (t + f.lead x) (picked N f Z x c p (suc k))
    unfolding Good SpotValid spot_value last_on
    next_carries k t l m =
        ⊎_elim (λ a. rw (picked-gate N f Z x c p (suc k) a) (tt, ap (λ (n : ℕ). word_from f.origin B n (source N x p)) (omega arith)))
        (λ a. rw (picked_wire N f Z x c p (suc k) a) (last_carries t (inr (omega (arith, shown_range N f Z x p (omega arith))))))
        (lt_or_le (suc k) (shown_on N f Z x p))

    -- what it shows until then
    pub shown-word : (k : ℕ) → k < shown_on N f Z x p → reset_word N f Z x p (first_on N f Z x + k) ≡ word_from f.origin B ((first_on N f Z x + k) + f.lead x) (source N x p)
    unfolding reset_word last_on
    shown-word k l = word_early ((first_on N f Z x + k) + f.lead x) (omega (arith, shown_range N f Z x p (omega arith)))

    -- an operand's width is the old one's
    pub width_along : (j : ℕ) → width_at (gated_with N f Z) (number_of N f Z (along N f Z x c p j)) ≡ width_at N (source N x p)
    unfolding width_at spot_node spot_number
    width_along j =
        ap (λ (n : Node). n.width) (node_numbered N f Z (Old (along N f Z x c p j)) (along_sound N f Z ok.sourced ok.rooted ok.serves x c p s q j))
        ∙ ⊎_elim (λ l. rw (along_reg N f Z x c p j l) refl) (λ l. rw (along-end N f Z x c p j l) (width_root N ok.sourced ok.fit (source N x p) source_at)) (lt_or_le j (count_on N f Z x p))

    pub width_picked : (k : ℕ) → width_at (gated_with N f Z) (spot_number N f Z (picked N f Z x c p k)) ≡ width_at N (source N x p)
    unfolding width_at spot_node spot_number
    width_picked k =
        ⊎_elim (λ l. ap (λ (n : Node). n.width) (node_numbered N f Z (picked N f Z x c p k) (picked_sound N f Z ok.sourced ok.rooted ok.serves x c p s q k)) ∙ rw (picked-gate N f Z x c p k l) refl)
        (λ l. ap (λ (sp : Spot). width_at (gated_with N f Z) (spot_number N f Z sp)) (picked_wire N f Z x c p k l) ∙ width_along 0)
        (lt_or_le k (shown_on N f Z x p))

  -- The new memory holds, clock by clock, what the old one does, as many clocks early as its lead says
  pub contents_new : (u c : ℕ) → Stands N f Z u c → is_memory (element_at N u) ≡ true → (s : ℕ)
      → held_by (element_at N u) (contents_at N u) (λ p r. B r (source N u p)) ((s + f.lead u) - f.origin)
      ≡ held_by (new_element (element_at N u) (new_table N f Z u) c) (contents_in (new_tables N f Z) (new_element (element_at N u) (new_table N f Z u) c)) (λ p r. B ((r + f.lead u) - f.origin) (source N u p)) s
  unfolding contents_in contents_at new_tables new_table
  contents_new u c stands e s =
      rom_held (element_at N u) (contents_at N u) (λ p r. B r (source N u p)) ((s + f.lead u) - f.origin)
      ∙ sym (rom_held (new_element (element_at N u) (new_table N f Z u) c) (contents_in (new_tables N f Z) (new_element (element_at N u) (new_table N f Z u) c)) (λ p r. B ((r + f.lead u) - f.origin) (source N u p)) s
      ∙ ap (λ (k : ℕ). spelled (get_or N.tables k no_table)) (table_of_new (element_at N u) (table_of (element_at N u)) c e))
