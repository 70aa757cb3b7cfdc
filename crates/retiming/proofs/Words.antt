-- The words of the rewritten netlist are those that its spots should carry, from the clock on at which they carry them; and where no node is late, what the
-- spots carry is a behaviour. Assumes nothing.
use Rattle.std.specs.Prelude.{◌≡◌, ◌⊎◌, true, false, List, eqb, ltb}
use Rattle.std.proofs.Math.Path.{refl, sym, ap, subst}
use Rattle.std.proofs.Common.{◌∙◌, true≢false, zero-add, lit<, lt-ltb, le-ltb}
use Rattle.std.proofs.Math.Logic.{inl, inr, ⊎_elim}
use Rattle.std.proofs.Math.Bool.{cond}
use Prim.Native.Nat.{ℕ, zero, suc, ◌+◌, ◌-◌, ◌≤◌, ◌<◌, max, zero-le, suc-le-suc}
use native.Mathlib.Omega.{arith}
use Rattle.std.proofs.Math.ListN.{length, get_or}
use Rattle.words.specs.Gates.{operate}
use Rattle.netlist.specs.declared.Element.{Element}
use Rattle.netlist.specs.declared.Node.{Node}
use Rattle.lists.specs.Lists.{one}
use Rattle.lists.proofs.BelowLaws.{true_or_false, lt_or_le, one_le}
use Rattle.netlist.specs.Net.{Net, size, node_at, element_at, width_at, source, operands, gives, contents_in, contents_at, within_clock, within_few, is_input, is_memory, port_of, Behaves, Sourced}
use Rattle.retiming.specs.Rewrite.{Timing, word_from, old_on, Entry, Reg, root, own_here, memory_at, count_on, new_tables, new_table, reset_word, along, new_element}
use Rattle.retiming.specs.Gates.{Spot, Old, One, Chain, Shown, Pick, first_on, shown_on, chain_length, spots, spot_number, picked, chained, spot_node, gated_with}
use Rattle.behaviour.proofs.Exists.{rom_held}
use Rattle.behaviour.proofs.Gives.{gives_last}
use Rattle.behaviour.proofs.Unique.{unique_on}
use Rattle.retiming.proofs.Wires.{root_within, root_kept}
use Rattle.retiming.specs.Layout.{Stands}
use Rattle.retiming.proofs.LayoutLaws.{along_sound}
use Rattle.retiming.specs.GatesLayout.{no_spot, SpotSound}
use Rattle.retiming.proofs.GatesLayout.{spots_sound, spot-numbered, picked_sound}
use Rattle.retiming.specs.Candidate.{Retimes, value, spot_value, Good, Valid, SpotValid, sources}
use Rattle.retiming.proofs.Candidate.{word_after, size-new, node_new, early_gives, outside_new, within_new, used_new, source-new, count_early, word_early, carries, operand_carries, next_carries, shown-word, width_picked, contents_new}
use Rattle.retiming.proofs.New.{new_sourced, new-rank, new_ranked, steer_sound}

-- one register further, one clock later
one_later : (i t : ℕ) → one (ltb i t) ≡ one (ltb (suc i) (suc t))
one_later i t = ⊎_elim (λ l. rw (lt-ltb i t l) (rw (lt-ltb (suc i) (suc t) (suc-le-suc l)))) (λ l. rw (le-ltb i t l) (rw (le-ltb (suc i) (suc t) (suc-le-suc l)))) (lt_or_le i t)

module _ (N : Net) (f : Timing) (ok : Retimes N f) (ins jns B Z : ℕ → ℕ → ℕ) (hB : Behaves N ins B) (hZ : Behaves N jns Z)
    (R : ℕ → ℕ → ℕ)
    (ports : (i u c : ℕ) → i < length (spots N f Z) → get_or (spots N f Z) i no_spot ≡ Old (Entry u c) → is_input (element_at N u) ≡ true → port_of (gated_with N f Z) i ≡ port_of N u) where
  -- what a node gives at number i of the rewritten netlist
  node_gives : ℕ → ℕ → Node → ℕ
  node_gives t i n =
      gives (contents_in (new_tables N f Z) n.element) n.element n.width (λ p. width_at (gated_with N f Z) (get_or n.sources p 0))
      (λ r. ins r (port_of (gated_with N f Z) i)) (λ p r. R r (get_or n.sources p 0)) t

  -- what is known of the sources: at this clock, and at earlier ones
  abbrev Known : Spot → ℕ → ℕ → Type 0
  Known sp p t = (sp' : Spot) → get_or (spot_node N f Z sp).sources p 0 ≡ spot_number N f Z sp' → SpotSound N f Z sp' → SpotValid N f Z t sp' → R t (get_or (spot_node N f Z sp).sources p 0) ≡ spot_value N f Z B t sp'

  record Before (t : ℕ) (sp : Spot) : Type 0 where
    now : (p : ℕ) → p < within_clock (spot_node N f Z sp).element → Known sp p t
    earlier : (p : ℕ) → p < operands (spot_node N f Z sp).element → (r : ℕ) → r < t → Known sp p r

  entry_step : (t i u c : ℕ) → (is_input (element_at N u) ≡ true → port_of (gated_with N f Z) i ≡ port_of N u) → Stands N f Z u c → SpotValid N f Z t (Old (Entry u c)) → Before t (Old (Entry u c))
      → node_gives t i (spot_node N f Z (Old (Entry u c))) ≡ spot_value N f Z B t (Old (Entry u c))
  unfolding node_gives spot_node spot_value value SpotValid Valid memory_at own_here Behaves sources
  entry_step t i u c port s valid b =
      sym (early_gives (contents_at N u) new_held (width_at N u) (λ p. width_at N (source N u p)) (λ r. ins r (port_of N u)) (λ r. ins r (port_of (gated_with N f Z) i)) (λ p r. B r (source N u p)) (λ r. B r u) (new_table N f Z u) c (f.lead u) f.origin
      (element_at N u) s.other (λ r. hB r u s.inside) t valid port_word (contents_new N f ok ins jns B Z hB hZ u c s)
      ∙ gives_last new_held new_held (width_at N u) (λ p. width_at N (source N u p)) (λ p. width_at (gated_with N f Z) (sources N f Z u c p)) (λ r. ins r (port_of (gated_with N f Z) i)) (λ r. ins r (port_of (gated_with N f Z) i))
      (λ p r. B ((r + f.lead u) - f.origin) (source N u p)) (λ p r. R r (sources N f Z u c p)) t new_one
      (λ p q. sym (ap (width_at (gated_with N f Z)) (source-new N f Z u c p q) ∙ width_picked N f ok ins jns B Z hB hZ u c p s (used_new N f Z u c p q) 0))
      (λ e. refl)
      (λ p q. let a : p < operands new_one = omega (arith, within_few new_one) in word_in t p a (now_late valid (within_new (element_at N u) (new_table N f Z u) c p q).0) (b.now p q))
      (λ w p q r e. word_in r p q (last_late valid r e (outside_new (element_at N u) (new_table N f Z u) c p s.other w q)) (b.earlier p q r (omega arith)))
      (λ e r l. rom_held new_one new_held (λ p r. B ((r + f.lead u) - f.origin) (source N u p)) r ∙ sym (rom_held new_one new_held (λ p r. R r (sources N f Z u c p)) r)))
    where
      new_one : Element
      new_one = new_element (element_at N u) (new_table N f Z u) c

      new_held : List ℕ
      new_held = contents_in (new_tables N f Z) (new_element (element_at N u) (new_table N f Z u) c)

      port_word : is_input (element_at N u) ≡ true → ins ((t + f.lead u) - f.origin) (port_of N u) ≡ ins t (port_of (gated_with N f Z) i)
      port_word e = rw (port e) (ap (λ (k : ℕ). ins k (port_of N u)) (omega (arith, ok.inputs u s.inside e)))

      now_late : ((is_memory (element_at N u) ≡ true) × (t ≡ 0)) ⊎ (f.origin + one (is_memory (element_at N u)) ≤ t + f.lead u) → is_memory (element_at N u) ≡ false → f.origin ≤ t + f.lead u
      now_late (inl z) e = absurd (true≢false (sym z.0 ∙ e))
      now_late (inr l) e = omega arith

      last_late : ((is_memory (element_at N u) ≡ true) × (t ≡ 0)) ⊎ (f.origin + one (is_memory (element_at N u)) ≤ t + f.lead u) → (r : ℕ) → suc r ≡ t → is_memory (element_at N u) ≡ true → f.origin ≤ r + f.lead u
      last_late (inl z) r e k = absurd (omega (arith, z.1))
      last_late (inr l) r e k = omega (arith, ap one k)

      word_in : (r p : ℕ) → p < operands (new_element (element_at N u) (new_table N f Z u) c) → f.origin ≤ r + f.lead u → Known (Old (Entry u c)) p r → B ((r + f.lead u) - f.origin) (source N u p) ≡ R r (sources N f Z u c p)
      word_in r p q l known =
          let a = operand_carries N f ok ins jns B Z hB hZ u c p s (used_new N f Z u c p q) r l in
          sym (known (picked N f Z u c p 0) (source-new N f Z u c p q) (picked_sound N f Z ok.sourced ok.rooted ok.serves u c p s (used_new N f Z u c p q) 0) a.0
          ∙ a.1 ∙ word_after f.origin B (r + f.lead u) (source N u p) l)

  reg_step : (t i x c p j : ℕ) → Stands N f Z x c → p < operands (element_at N x) → j < count_on N f Z x p → Good N f Z x p (t + (j + f.lead x)) → Before t (Old (Reg x c p j))
      → node_gives t i (spot_node N f Z (Old (Reg x c p j))) ≡ spot_value N f Z B t (Old (Reg x c p j))
  unfolding node_gives spot_node spot_value value spot_number SpotValid reset_word
  reg_step zero i x c p j s q l g b =
      word_early N f ok ins jns B Z hB hZ x c p s q (j + f.lead x) (omega (arith, count_early N f Z ok x c p s q j l)) ∙ ap (λ (k : ℕ). word_from f.origin B k (source N x p)) (sym (zero-add (j + f.lead x)))
  reg_step (suc t) i x c p j s q l g b =
      let e : suc t + (j + f.lead x) ≡ t + (suc j + f.lead x) = omega arith in
      let a = carries N f ok ins jns B Z hB hZ x c p s q (suc j) t l (rw e at g) in
      b.earlier 0 (lit< tt) t (omega arith) (Old (along N f Z x c p (suc j))) refl (along_sound N f Z ok.sourced ok.rooted ok.serves x c p s q (suc j)) a.0
      ∙ a.1 ∙ ap (λ (k : ℕ). word_from f.origin B k (source N x p)) (sym e)

  chain_step : (t i k : ℕ) → k < chain_length N f Z → Before t (Chain k) → node_gives t i (spot_node N f Z (Chain k)) ≡ spot_value N f Z B t (Chain k)
  unfolding node_gives spot_node spot_value chained SpotValid
  chain_step zero i k l b = sym (ap one (le-ltb k 0 zero-le))
  chain_step (suc t) i zero l b = b.earlier 0 (lit< tt) t (omega arith) One refl l tt ∙ sym (ap one (lt-ltb 0 (suc t) (suc-le-suc zero-le)))
  chain_step (suc t) i (suc k) l b = b.earlier 0 (lit< tt) t (omega arith) (Chain k) refl (omega arith) tt ∙ one_later k t

  one_step : (t i : ℕ) → node_gives t i (spot_node N f Z One) ≡ spot_value N f Z B t One
  unfolding node_gives spot_node spot_value operate
  one_step t i = refl

  shown_step : (t i x c p k : ℕ) → node_gives t i (spot_node N f Z (Shown x c p k)) ≡ spot_value N f Z B t (Shown x c p k)
  unfolding node_gives spot_node spot_value operate
  shown_step t i x c p k = refl

  pick_step : (t i x c p k : ℕ) → Stands N f Z x c → p < operands (element_at N x) → k < shown_on N f Z x p → Before t (Pick x c p k)
      → node_gives t i (spot_node N f Z (Pick x c p k)) ≡ spot_value N f Z B t (Pick x c p k)
  unfolding node_gives spot_node spot_value operate SpotValid
  pick_step t i x c p k s q l b =
      ap (λ (n : ℕ). cond (eqb n 1) (R t (spot_number N f Z (picked N f Z x c p (suc k)))) (R t (spot_number N f Z (Shown x c p k))))
      (b.now 0 (lit< tt) (Chain (first_on N f Z x + k)) refl (steer_sound N f Z ok x c p k s q l) tt)
      ∙ ⊎_elim (λ m. after m) (λ m. before m) (lt_or_le (first_on N f Z x + k) t)
    where
      after : first_on N f Z x + k < t → cond (eqb (one (ltb (first_on N f Z x + k) t)) 1) (R t (spot_number N f Z (picked N f Z x c p (suc k)))) (R t (spot_number N f Z (Shown x c p k))) ≡ word_from f.origin B (max t (first_on N f Z x + k) + f.lead x) (source N x p)
      after m =
          let a = next_carries N f ok ins jns B Z hB hZ x c p s q k t l m in
          rw (lt-ltb (first_on N f Z x + k) t m) (b.now 1 (lit< tt) (picked N f Z x c p (suc k)) refl (picked_sound N f Z ok.sourced ok.rooted ok.serves x c p s q (suc k)) a.0
          ∙ a.1 ∙ ap (λ (n : ℕ). word_from f.origin B (n + f.lead x) (source N x p)) (omega arith))

      before : t ≤ first_on N f Z x + k → cond (eqb (one (ltb (first_on N f Z x + k) t)) 1) (R t (spot_number N f Z (picked N f Z x c p (suc k)))) (R t (spot_number N f Z (Shown x c p k))) ≡ word_from f.origin B (max t (first_on N f Z x + k) + f.lead x) (source N x p)
      before m =
          rw (le-ltb (first_on N f Z x + k) t m) (b.now 2 (lit< tt) (Shown x c p k) refl (s, q, l) tt ∙ shown-word N f ok ins jns B Z hB hZ x c p s q k l
          ∙ ap (λ (n : ℕ). word_from f.origin B (n + f.lead x) (source N x p)) (omega arith))

  spot_step : (t i : ℕ) (sp : Spot) → i < length (spots N f Z) → get_or (spots N f Z) i no_spot ≡ sp → SpotSound N f Z sp → SpotValid N f Z t sp → Before t sp
      → node_gives t i (spot_node N f Z sp) ≡ spot_value N f Z B t sp
  unfolding SpotValid Valid
  spot_step t i (Old (Entry u c)) h e s a b = entry_step t i u c (ports i u c h e) s a b
  spot_step t i (Old (Reg x c p j)) h e (s, q, l) a b = reg_step t i x c p j s q l a b
  spot_step t i One h e s a b = one_step t i
  spot_step t i (Chain k) h e s a b = chain_step t i k s b
  spot_step t i (Shown x c p k) h e s a b = shown_step t i x c p k
  spot_step t i (Pick x c p k) h e (s, q, l) a b = pick_step t i x c p k s q l b

  -- what holds at the sources' numbers holds of the spots that stand there
  known_at : (t i p : ℕ) → (k : i < length (spots N f Z)) → (SpotValid N f Z t (get_or (spots N f Z) (source (gated_with N f Z) i p) no_spot) → R t (source (gated_with N f Z) i p) ≡ spot_value N f Z B t (get_or (spots N f Z) (source (gated_with N f Z) i p) no_spot))
      → Known (get_or (spots N f Z) i no_spot) p t
  unfolding source
  known_at t i p k h sp e s v =
      let n : node_at (gated_with N f Z) i ≡ spot_node N f Z (get_or (spots N f Z) i no_spot) = node_new N f Z i k in
      let w : get_or (spots N f Z) (get_or (spot_node N f Z (get_or (spots N f Z) i no_spot)).sources p 0) no_spot ≡ sp = ap (λ (m : ℕ). get_or (spots N f Z) m no_spot) e ∙ (spot-numbered N f Z sp s).at in
      (rw w at (rw n at h)) v

  -- THE WORDS of the rewritten netlist
  pub new-words : Behaves (gated_with N f Z) ins R → (t i : ℕ) → i < size (gated_with N f Z) → SpotValid N f Z t (get_or (spots N f Z) i no_spot) → R t i ≡ spot_value N f Z B t (get_or (spots N f Z) i no_spot)
  unfolding node_gives Behaves contents_at element_at width_at source gated_with
  new-words hR =
      unique_on (gated_with N f Z) (new-rank N f Z ok) (new_sourced N f Z ok) (new_ranked N f Z ok) R (λ t i. spot_value N f Z B t (get_or (spots N f Z) i no_spot)) (λ t i. SpotValid N f Z t (get_or (spots N f Z) i no_spot))
      (λ t i h a now earlier.
      let k : i < length (spots N f Z) = subst (λ (n : ℕ). i < n) (size-new N f Z) h in
      let e : node_at (gated_with N f Z) i ≡ spot_node N f Z (get_or (spots N f Z) i no_spot) = node_new N f Z i k in
      hR t i h ∙ ap (node_gives t i) e
      ∙ spot_step t i (get_or (spots N f Z) i no_spot) k refl (spots_sound N f Z i k) a (record {
        now = λ p q. known_at t i p k (now p (subst (λ (n : Node). p < within_clock n.element) (sym e) q));
        earlier = λ p q r z. known_at r i p k (earlier p r (subst (λ (n : Node). p < operands n.element) (sym e) q) z);
      }))

-- ---- where no node is late, a spot always carries its word: what the spots carry is a behaviour

module _ (N : Net) (f : Timing) (Z : ℕ → ℕ → ℕ) (ok : Retimes N f) (early : (v : ℕ) → v < size N → f.keeps v ≡ true → f.origin ≤ f.lead v) where
  pub early_valid : (t : ℕ) (sp : Spot) → SpotSound N f Z sp → SpotValid N f Z t sp
  unfolding SpotValid Valid Good Sourced
  early_valid zero (Old (Entry u c)) s =
      ⊎_elim (λ e. inl (e, refl)) (λ e. inr (rw e (omega (arith, early u s.inside s.kept)))) (true_or_false (memory_at N u))
  early_valid (suc t) (Old (Entry u c)) s = inr (omega (arith, early u s.inside s.kept, one_le (memory_at N u)))
  early_valid t (Old (Reg x c p j)) (s, q, l) =
      ⊎_elim (λ k. inl k)
      (λ k. inr (omega (arith, k, early (root N (source N x p)) (root_within N ok.sourced (source N x p) (ok.sourced x p s.inside q)) (root_kept N ok.sourced f ok.serves x p s.inside s.kept q))))
      (lt_or_le (t + (j + f.lead x)) (old_on N f Z x p + f.lead (root N (source N x p))))
  early_valid t One s = tt
  early_valid t (Chain i) s = tt
  early_valid t (Shown x c p k) s = tt
  early_valid t (Pick x c p k) s = tt

-- the words of all spots
unfoldable pub candidate : (N : Net) (f : Timing) (Z B : ℕ → ℕ → ℕ) → ℕ → ℕ → ℕ
candidate N f Z B t i = spot_value N f Z B t (get_or (spots N f Z) i no_spot)

module _ (N : Net) (f : Timing) (ok : Retimes N f) (ins jns B Z : ℕ → ℕ → ℕ) (hB : Behaves N ins B) (hZ : Behaves N jns Z)
    (early : (v : ℕ) → v < size N → f.keeps v ≡ true → f.origin ≤ f.lead v)
    (ports : (i u c : ℕ) → i < length (spots N f Z) → get_or (spots N f Z) i no_spot ≡ Old (Entry u c) → is_input (element_at N u) ≡ true → port_of (gated_with N f Z) i ≡ port_of N u) where
  pub new_behaves : Behaves (gated_with N f Z) ins (candidate N f Z B)
  unfolding Behaves candidate node_gives contents_at element_at width_at source gated_with
  new_behaves t i h =
      let k : i < length (spots N f Z) = subst (λ (n : ℕ). i < n) (size-new N f Z) h in
      sym (ap (node_gives N f ok ins jns B Z hB hZ (candidate N f Z B) ports t i) (node_new N f Z i k)
      ∙ spot_step N f ok ins jns B Z hB hZ (candidate N f Z B) ports t i (get_or (spots N f Z) i no_spot) k refl (spots_sound N f Z i k)
      (early_valid N f Z ok early t (get_or (spots N f Z) i no_spot) (spots_sound N f Z i k)) (record { now = λ p q. stands p t; earlier = λ p q r z. stands p r }))
    where
      stands : (p r : ℕ) (sp : Spot) → get_or (spot_node N f Z (get_or (spots N f Z) i no_spot)).sources p 0 ≡ spot_number N f Z sp → SpotSound N f Z sp → SpotValid N f Z r sp
          → candidate N f Z B r (get_or (spot_node N f Z (get_or (spots N f Z) i no_spot)).sources p 0) ≡ spot_value N f Z B r sp
      stands p r sp e s v = ap (candidate N f Z B r) e ∙ ap (spot_value N f Z B r) (spot-numbered N f Z sp s).at
