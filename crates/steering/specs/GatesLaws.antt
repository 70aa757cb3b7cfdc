-- The gates of one wire more. Assumes nothing.
use Rattle.std.specs.Prelude.{◌≡◌, Bool, cond, ℕ, suc, ◌+◌, ◌-◌, ◌*◌, ◌/◌, ◌%◌, ◌≤◌, ◌<◌, get_or, set, ltb}
use Rattle.std.proofs.Math.Path.{refl, sym, ap}
use Rattle.std.proofs.Common.{subst, ◌∙◌, arith, length-append, get_or-append-add, get_or-set_same, get_or-set_other, lt-ltb, le-ltb}
use Rattle.std.proofs.Math.Logic.{⊎_elim}
use mathlib.Core.List.{List, [], ◌∷◌, ◌++◌, append-nil}
use Rattle.std.proofs.Math.ListN.{length, get_or-append}
use Rattle.lists.proofs.BelowLaws.{lt_or_le, lt-suc_split}
use Rattle.netlist.specs.Net.{Net, element_at, source, operands}
use Rattle.netlist.proofs.NodeLaws.{few_operands}
use Rattle.behaviour.specs.Run.{zero_word}
use Rattle.retiming.specs.Rewrite.{Timing, Place, Entry, Reg, entry_places, places, number_of, along}
use Rattle.retiming.specs.Layout.{no_place, Stands}
use Rattle.retiming.specs.Gates.{Spot, Old, One, Chain, Shown, Pick, first_on, shown_on, picks_on, spot_number, picked}
use Rattle.retiming.specs.GatesLayout.{no_spot}
use Rattle.retiming.proofs.GatesLayout.{picked-gate, picked_wire}
use Rattle.retiming.proofs.GatesCounts.{picks_length}
use Rattle.wiring.specs.WiringLaws.{asked-after}
use Rattle.plan.specs.Entries.{Stored}
use Rattle.plan.specs.Registers.{entry_count, entry_at, wire_on, wires_before, HeadHeld, RegHeld}
use Rattle.plan.specs.RegistersRow.{row_next, reader_stands}
use Rattle.plan.specs.PlanLaws.{places-length}
use Rattle.steering.specs.Gated.{SpotKept}
use Rattle.steering.specs.GatesTo.{gate_after, PutsPairs, picks_before, gates_from, HeadGated, GatesTo}
use Rattle.steering.specs.GatesRow.{constant_at, gate_at, pick_number}

pub after-gate : (head start count t : ℕ) → suc t < count → gate_after head start count t ≡ start + 2 * t + 3
unfolding gate_after
after-gate head start count t h = rw (lt-ltb (suc t) count h)

pub after_last : (head start count t : ℕ) → count ≤ suc t → gate_after head start count t ≡ head
unfolding gate_after
after_last head start count t h = rw (le-ltb (suc t) count h)

module _ {N : Net} {f : Timing} {owners words late sources : List ℕ} {m total : ℕ} (d : GatesTo N f owners words late sources m total) (h : m < 3 * entry_count N f) where
  -- its reader
  abbrev x : ℕ
  x = get_or owners (m / 3) 0

  abbrev w : ℕ
  w = get_or words (m / 3) 0

  abbrev p : ℕ
  p = m % 3

  pub gate_reader : Stands N f (zero_word N) x w
  gate_reader = reader_stands N f owners words d.held (m / 3) (omega arith)

  entry_here : entry_at N f (m / 3) ≡ Entry x w
  entry_here = d.held (m / 3) (omega arith)

  next_row : picks_before N f (m + 1) ≡ picks_before N f m ++ cond (ltb p (operands (element_at N x))) (picks_on N f (zero_word N) x w p) []
  next_row = row_next N f (picks_on N f (zero_word N)) m ∙ ap (λ (pl : Place). picks_before N f m ++ wire_on N f (picks_on N f (zero_word N)) pl p) entry_here

  -- the head as it was, and as it is to be
  old_head : p < operands (element_at N x) → get_or sources m 0 ≡ number_of N f (zero_word N) (along N f (zero_word N) x w p 0)
  old_head o = (let g : HeadHeld N f owners words late sources m (Entry x w) p = subst (λ (pl : Place). HeadHeld N f owners words late sources m pl p) entry_here (d.heads m (omega arith) h) in g) o

  -- it has no gates
  module _ (same : picks_before N f (m + 1) ≡ picks_before N f m) (head : p < operands (element_at N x) → get_or sources m 0 ≡ spot_number N f (zero_word N) (picked N f (zero_word N) x w p 0)) where
    unchanged : GatesTo N f owners words late sources (m + 1) total
    unchanged = record {
      held = d.held;
      few = d.few;
      count = d.count ∙ ap (λ (l : List Spot). gates_from N f + length l) (sym same);
      gated = λ j l. ⊎_elim (λ y. d.gated j y) (λ y. subst (λ (q : ℕ). HeadGated N f owners words late sources q (entry_at N f (q / 3)) (q % 3)) (sym y) (subst (λ (pl : Place). HeadGated N f owners words late sources m pl p) (sym entry_here) head))
          (lt-suc_split (let z : j < suc m = omega arith in z));
      heads = λ j l k. d.heads j (omega arith) k;
      regs = d.regs;
      never = d.never;
      chain = d.chain;
      picks = λ o i l. subst (λ (q : List Spot). SpotKept N f owners words late sources (gates_from N f + i) (get_or q i no_spot)) (sym same) (d.picks o i (subst (λ (q : List Spot). i < length q) same l));
      ahead = d.ahead;
    }

  pub gates_past : operands (element_at N x) ≤ p → GatesTo N f owners words late sources (m + 1) total
  gates_past o =
      unchanged (next_row ∙ ap (λ (b : Bool). picks_before N f m ++ cond b (picks_on N f (zero_word N) x w p) []) (le-ltb p (operands (element_at N x)) o) ∙ append-nil (picks_before N f m))
      (λ q. absurd (omega arith))

  module _ (operand : p < operands (element_at N x)) where
    more_row : picks_before N f (m + 1) ≡ picks_before N f m ++ picks_on N f (zero_word N) x w p
    more_row = next_row ∙ ap (λ (b : Bool). picks_before N f m ++ cond b (picks_on N f (zero_word N) x w p) []) (lt-ltb p (operands (element_at N x)) operand)

    more-length : length (picks_before N f (m + 1)) ≡ length (picks_before N f m) + 2 * shown_on N f (zero_word N) x p
    more-length = ap length more_row ∙ length-append (picks_before N f m) (picks_on N f (zero_word N) x w p) ∙ omega (arith, picks_length N f (zero_word N) x w p)

    pub gates_none : shown_on N f (zero_word N) x p ≡ 0 → GatesTo N f owners words late sources (m + 1) total
    unfolding spot_number
    gates_none z =
        unchanged (more_row ∙ ap (λ (l : List Spot). picks_before N f m ++ l) (empty (picks_on N f (zero_word N) x w p) (omega (arith, picks_length N f (zero_word N) x w p))) ∙ append-nil (picks_before N f m))
        (λ o. old_head o ∙ sym (ap (spot_number N f (zero_word N)) (picked_wire N f (zero_word N) x w p 0 (omega arith))))
      where
        empty : (l : List Spot) → length l ≡ 0 → l ≡ []
        empty [] e = refl
        empty (a ∷ l) e = absurd (omega arith)

    -- it has some
    module _ {n : ℕ} (ne : n ≡ shown_on N f (zero_word N) x p) (some : 0 < n) where
      spot_here : (i : ℕ) → get_or (picks_before N f (m + 1)) (length (picks_before N f m) + i) no_spot ≡ get_or (picks_on N f (zero_word N) x w p) i no_spot
      spot_here i = ap (λ (l : List Spot). get_or l (length (picks_before N f m) + i) no_spot) more_row ∙ get_or-append-add (picks_before N f m) (picks_on N f (zero_word N) x w p) i no_spot

      number_here : (i : ℕ) → i < 2 * n → spot_number N f (zero_word N) (get_or (picks_on N f (zero_word N) x w p) i no_spot) ≡ total + i
      number_here i l =
          ap (spot_number N f (zero_word N)) (sym (spot_here i)) ∙ pick_number N f (m + 1) (length (picks_before N f m) + i) (omega arith) (omega (arith, more-length)) ∙ omega (arith, d.count)

      module _ (t : ℕ) (l : t < n) where
        t_shown : t < shown_on N f (zero_word N) x p
        t_shown = omega arith

        constant_number : spot_number N f (zero_word N) (Shown x w p t) ≡ total + 2 * t
        constant_number = ap (spot_number N f (zero_word N)) (sym (constant_at N f x w p t t_shown)) ∙ number_here (2 * t) (omega arith)

        gate_number : spot_number N f (zero_word N) (Pick x w p t) ≡ total + 2 * t + 1
        gate_number = ap (spot_number N f (zero_word N)) (sym (gate_at N f x w p t t_shown)) ∙ number_here (2 * t + 1) (omega arith) ∙ omega arith

      -- what gate t reads at 1
      after_is : (head : ℕ) → head ≡ number_of N f (zero_word N) (along N f (zero_word N) x w p 0) → (t : ℕ) → t < n → gate_after head total n t ≡ spot_number N f (zero_word N) (picked N f (zero_word N) x w p (suc t))
      unfolding spot_number
      after_is head he t l = ⊎_elim
          (λ g. after-gate head total n t g ∙ omega (arith, gate_number (suc t) g) ∙ ap (spot_number N f (zero_word N)) (sym (picked-gate N f (zero_word N) x w p (suc t) (omega arith))))
          (λ g. after_last head total n t g ∙ he ∙ ap (spot_number N f (zero_word N)) (sym (picked_wire N f (zero_word N) x w p (suc t) (omega arith)))) (lt_or_le (suc t) n)

      chain_number : (k : ℕ) → spot_number N f (zero_word N) (Chain k) ≡ length (places N f (zero_word N)) + suc k
      unfolding spot_number
      chain_number k = refl

      module _ {head clock steer from : ℕ} {owners' late' put sources' : List ℕ} (he : head ≡ get_or sources m 0) (ce : clock ≡ f.lead x - f.origin) (be : steer ≡ length (places N f (zero_word N)) + suc (first_on N f (zero_word N) x))
          (fe : from ≡ total + 1) (q : PutsPairs (source N x p) head clock steer n total n owners late sources owners' late' put) (se : sources' ≡ set put m from) (la : length put ≡ 3072) where
        -- entries and registers come before the gates
        entries-first : entry_count N f + length (wires_before N f (3 * entry_count N f)) ≤ gates_from N f
        entries-first = omega (arith, places-length N f)

        low : entry_count N f + length (wires_before N f (3 * entry_count N f)) ≤ total
        low = omega (arith, entries-first, d.count)

        room : m < 3072
        room = omega (arith, places-length N f, d.few)

        sources_same : (j : ℕ) → (j ≡ m → ⊥) → get_or sources' j 0 ≡ get_or put j 0
        sources_same j l = ap (λ (z : List ℕ). get_or z j 0) se ∙ get_or-set_other put m j from 0 l

        sources_kept : (j : ℕ) → (j ≡ m → ⊥) → j < 3 * total → get_or sources' j 0 ≡ get_or sources j 0
        sources_kept j l k = sources_same j l ∙ q.sources_before j k

        held_still : Stored owners' words (entry_places N f (zero_word N))
        held_still j l = d.held j l ∙ ap (λ (y : ℕ). Entry y (get_or words j 0)) (sym (q.owners_before j (omega (arith, low))))

        head_now : HeadGated N f owners' words late' sources' m (entry_at N f (m / 3)) (m % 3)
        head_now =
            subst (λ (pl : Place). HeadGated N f owners' words late' sources' m pl p) (sym entry_here)
            (λ o. ap (λ (z : List ℕ). get_or z m 0) se ∙ get_or-set_same put m from 0 (omega (arith, room)) ∙ fe ∙ omega (arith, gate_number 0 some)
            ∙ ap (spot_number N f (zero_word N)) (sym (picked-gate N f (zero_word N) x w p 0 (omega arith))))

        gated_still : (j : ℕ) → j < m → (pl : Place) (o : ℕ) → HeadGated N f owners words late sources j pl o → HeadGated N f owners' words late' sources' j pl o
        gated_still j l (Entry y c) o g = λ z. sources_kept j (λ e. omega arith) (omega (arith, low)) ∙ g z
        gated_still j l (Reg y c o' j') o g = tt

        head_still : (j : ℕ) → m + 1 ≤ j → j < 3 * entry_count N f → (pl : Place) (o : ℕ) → HeadHeld N f owners words late sources j pl o → HeadHeld N f owners' words late' sources' j pl o
        head_still j l k (Entry y c) o g = λ z. sources_kept j (λ e. omega arith) (omega (arith, low)) ∙ g z
        head_still j l k (Reg y c o' j') o g = tt

        reg_still : (i : ℕ) → i < length (wires_before N f (3 * entry_count N f)) → (pl : Place) → RegHeld N f owners words late sources (entry_count N f + i) pl → RegHeld N f owners' words late' sources' (entry_count N f + i) pl
        reg_still i l (Entry y c) g = absurd g
        reg_still i l (Reg y c o j) (g, g', g'') = (
          q.owners_before (entry_count N f + i) (omega (arith, low)) ∙ g,
          q.late_before (entry_count N f + i) (omega (arith, low)) ∙ g',
          sources_kept (3 * (entry_count N f + i)) (λ e. omega arith) (omega (arith, low)) ∙ g'',
        )

        -- a spot of the wires before
        pick_still : (i : ℕ) → i < total → 3 * entry_count N f ≤ 3 * i → (sp : Spot) → SpotKept N f owners words late sources i sp → SpotKept N f owners' words late' sources' i sp
        pick_still i l k (Old (Entry u c)) (a, b, e, g) = (
          q.owners_before i l ∙ a,
          b,
          q.late_before i l ∙ e,
          λ p' o. sources_kept (3 * i + p') (λ z. omega arith) (omega (arith, few_operands (element_at N u))) ∙ g p' o,
        )
        pick_still i l k (Old (Reg y c o j)) (a, b, e) = (q.owners_before i l ∙ a, q.late_before i l ∙ b, sources_kept (3 * i) (λ z. omega arith) (omega arith) ∙ e)
        pick_still i l k One e = q.late_before i l ∙ e
        pick_still i l k (Chain j) e = q.late_before i l ∙ e
        pick_still i l k (Shown y c o j) (a, b) = (q.owners_before i l ∙ a, q.late_before i l ∙ b)
        pick_still i l k (Pick y c o j) (a, b, e, g, z) = (
          q.owners_before i l ∙ a,
          q.late_before i l ∙ b,
          sources_kept (3 * i) (λ z. omega arith) (omega arith) ∙ e,
          sources_kept (3 * i + 1) (λ z. omega arith) (omega arith) ∙ g,
          sources_kept (3 * i + 2) (λ z. omega arith) (omega arith) ∙ z,
        )

        shown_kept : (t : ℕ) → t < n → total + 2 * t + 1 < 1024 → SpotKept N f owners' words late' sources' (total + 2 * t) (Shown x w p t)
        unfolding first_on
        shown_kept t l b = ((q.owner t l b).0, (q.clocks t l b).0 ∙ omega (arith, asked-after {n = first_on N f (zero_word N) x + t + f.lead x} {o = f.origin} (omega arith)))

        gate_kept : (t : ℕ) → t < n → total + 2 * t + 1 < 1024 → SpotKept N f owners' words late' sources' (total + 2 * t + 1) (Pick x w p t)
        gate_kept t l b =
            let r = q.reads t l b in (
              (q.owner t l b).1,
              (q.clocks t l b).1,
              sources_same (3 * (total + 2 * t + 1)) (λ e. omega (arith, low)) ∙ r.0 ∙ omega (arith, chain_number (first_on N f (zero_word N) x + t)),
              sources_same (3 * (total + 2 * t + 1) + 1) (λ e. omega (arith, low)) ∙ r.1 ∙ after_is head (he ∙ old_head operand) t l,
              sources_same (3 * (total + 2 * t + 1) + 2) (λ e. omega (arith, low)) ∙ r.2 ∙ sym (constant_number t l),
            )

        -- the i-th node of this wire, even or odd, where all have room
        new_kept : total + 2 * n ≤ 1024 → (i : ℕ) → i < 2 * n → SpotKept N f owners' words late' sources' (total + i) (get_or (picks_on N f (zero_word N) x w p) i no_spot)
        new_kept b i l = ⊎_elim even odd (lt_or_le (i % 2) 1)
          where
            even : i % 2 < 1 → SpotKept N f owners' words late' sources' (total + i) (get_or (picks_on N f (zero_word N) x w p) i no_spot)
            even e =
                let t : ℕ = i / 2 in
                let z : 2 * t ≡ i = omega arith in
                subst (λ (k : ℕ). SpotKept N f owners' words late' sources' (total + k) (get_or (picks_on N f (zero_word N) x w p) k no_spot)) z
                (subst (SpotKept N f owners' words late' sources' (total + 2 * t)) (sym (constant_at N f x w p t (omega arith))) (shown_kept t (omega arith) (omega arith)))

            odd : 1 ≤ i % 2 → SpotKept N f owners' words late' sources' (total + i) (get_or (picks_on N f (zero_word N) x w p) i no_spot)
            odd e =
                let t : ℕ = i / 2 in
                let z : 2 * t + 1 ≡ i = omega arith in
                let y : total + 2 * t + 1 ≡ total + i = omega arith in
                subst (λ (k : ℕ). SpotKept N f owners' words late' sources' k (get_or (picks_on N f (zero_word N) x w p) i no_spot)) y
                (subst (SpotKept N f owners' words late' sources' (total + 2 * t + 1)) (sym (gate_at N f x w p t (omega arith)) ∙ ap (λ (k : ℕ). get_or (picks_on N f (zero_word N) x w p) k no_spot) z) (gate_kept t (omega arith) (omega arith)))

        picks_all : total + 2 * n ≤ 1024 → (i : ℕ) → i < length (picks_before N f (m + 1)) → SpotKept N f owners' words late' sources' (gates_from N f + i) (get_or (picks_before N f (m + 1)) i no_spot)
        picks_all b i l = ⊎_elim earlier later (lt_or_le i (length (picks_before N f m)))
          where
            earlier : i < length (picks_before N f m) → SpotKept N f owners' words late' sources' (gates_from N f + i) (get_or (picks_before N f (m + 1)) i no_spot)
            earlier y =
                subst (SpotKept N f owners' words late' sources' (gates_from N f + i)) (sym (ap (λ (z : List Spot). get_or z i no_spot) more_row ∙ get_or-append (picks_before N f m) (picks_on N f (zero_word N) x w p) no_spot i y))
                (pick_still (gates_from N f + i) (omega (arith, d.count)) (omega (arith, entries-first)) (get_or (picks_before N f m) i no_spot) (d.picks (omega arith) i y))

            later : length (picks_before N f m) ≤ i → SpotKept N f owners' words late' sources' (gates_from N f + i) (get_or (picks_before N f (m + 1)) i no_spot)
            later y =
                let j : ℕ = i - length (picks_before N f m) in
                let back : length (picks_before N f m) + j ≡ i = omega arith in
                let place : total + j ≡ gates_from N f + i = omega (arith, d.count) in
                subst (λ (k : ℕ). SpotKept N f owners' words late' sources' k (get_or (picks_before N f (m + 1)) i no_spot)) place
                (subst (SpotKept N f owners' words late' sources' (total + j)) (sym (spot_here j) ∙ ap (λ (k : ℕ). get_or (picks_before N f (m + 1)) k no_spot) back) (new_kept b j (omega (arith, more-length))))

        pub gates_more : GatesTo N f owners' words late' sources' (m + 1) (total + 2 * n)
        gates_more = record {
          held = held_still;
          few = d.few;
          count = omega (arith, d.count, more-length);
          gated = λ j l. ⊎_elim (λ y. gated_still j y (entry_at N f (j / 3)) (j % 3) (d.gated j y)) (λ y. subst (λ (k : ℕ). HeadGated N f owners' words late' sources' k (entry_at N f (k / 3)) (k % 3)) (sym y) head_now) (lt-suc_split (let z : j < suc m = omega arith in z));
          heads = λ j l k. head_still j l k (entry_at N f (j / 3)) (j % 3) (d.heads j (omega arith) k);
          regs = λ i l. reg_still i l (get_or (wires_before N f (3 * entry_count N f)) i no_place) (d.regs i l);
          never = λ i l. q.late_before i (omega (arith, low)) ∙ d.never i l;
          chain = λ i l k b. q.late_before i (omega (arith, d.count)) ∙ d.chain i l k b;
          picks = picks_all;
          ahead = λ i l b. q.late-after i l ∙ d.ahead i (omega arith) b;
        }
