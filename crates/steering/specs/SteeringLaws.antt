-- From the plan without gates to the plan with them. Assumes nothing.
use Rattle.std.specs.Prelude.{◌≡◌, refl, List, [], ◌∷◌, ◌++◌, map, ℕ, zero, suc, ◌+◌, ◌-◌, ◌*◌, ◌/◌, ◌%◌, ◌≤◌, ◌<◌, ltb}
use Rattle.std.proofs.Common.{sym, ◌∙◌, not-suc-le-zero, arith, get_or-append-add, lt-ltb, le-ltb}
use Rattle.std.proofs.Math.Path.{ap, subst}
use Rattle.std.proofs.Math.Logic.{⊎_elim}
use Rattle.std.proofs.Math.ListN.{length, get_or, get_or-append}
use Rattle.std.proofs.lemmas.List.{length-map}
use Rattle.lists.specs.Lists.{below}
use Rattle.lists.proofs.BelowLaws.{true_or_false, lt_or_le, length_listed, get_or_listed, get_or_map-lt}
use Rattle.netlist.specs.Net.{Net, element_at}
use Rattle.netlist.proofs.NodeLaws.{few_operands}
use Rattle.behaviour.specs.Run.{zero_word}
use Rattle.retiming.specs.Rewrite.{Timing, Place, Entry, Reg, entry_places, reg_places, places}
use Rattle.retiming.specs.Layout.{no_place}
use Rattle.retiming.proofs.LayoutLaws.{either}
use Rattle.retiming.specs.Gates.{Old, One, Chain, chain_length, picks_on, chain_spots, pick_spots, spots, spot_number}
use Rattle.retiming.specs.GatesLayout.{no_spot}
use Rattle.retiming.proofs.GatesLayout.{picked_wire}
use Rattle.retiming.proofs.Ungated.{none_shown, no_length, no_chain, no_picks}
use Rattle.plan.specs.Areas.{owners_in, words_in, late_in, sources_in}
use Rattle.plan.specs.Registers.{entry_count, entry_at, row_before, wires_before, HeadHeld, RegHeld, Laid}
use Rattle.plan.specs.RegistersRow.{regs_in_row, row_longer}
use Rattle.plan.specs.Plan.{PlanLaid}
use Rattle.plan.specs.PlanLaws.{places-length}
use Rattle.steering.specs.Gated.{SpotKept, Gated, Steering}
use Rattle.steering.specs.GatesTo.{picks_before, gates_from, HeadGated, GatesTo, AllGated}
use Rattle.steering.specs.GatesRow.{picks_in_row, spots-length, spot_at_lem}

module _ {N : Net} {f : Timing} {owners words late sources : List ℕ} where
  -- ---- before the first wire

  module _ {wired : ℕ} (d : Laid N f owners words late sources (3 * entry_count N f) wired) (few : wired ≤ 1024) where
    pub wired_is : wired ≡ length (places N f (zero_word N))
    wired_is = d.count ∙ sym (places-length N f)

    pub gates_first : {total : ℕ} → total ≡ gates_from N f → GatesTo N f owners words late sources 0 total
    unfolding row_before
    gates_first e = record {
      held = d.held;
      few = omega (arith, wired_is);
      count = omega (arith, e);
      gated = λ j l. absurd (not-suc-le-zero l);
      heads = λ j l k. d.heads j k;
      regs = λ i l. d.regs i l (omega (arith, d.count));
      never = d.never;
      chain = λ i l k b. d.ahead i (omega (arith, wired_is)) b;
      picks = λ o i l. absurd (not-suc-le-zero l);
      ahead = λ i l b. d.ahead i (omega (arith, wired_is)) b;
    }

    -- where no node is late there are no gates, and every wire is as it was
    module _ (early : (v : ℕ) → f.origin ≤ f.lead v) where
      no_row : picks_before N f (3 * entry_count N f) ≡ []
      no_row = sym (picks_in_row N f) ∙ no_picks N f (zero_word N) early

      chain_empty : length (chain_spots N f (zero_word N)) ≡ 0
      chain_empty = ap length (no_chain N f (zero_word N) early)

      head_same : (j : ℕ) (pl : Place) (q : ℕ) → HeadHeld N f owners words late sources j pl q → HeadGated N f owners words late sources j pl q
      unfolding spot_number
      head_same j (Entry x c) q g = λ o. g o ∙ ap (spot_number N f (zero_word N)) (sym (picked_wire N f (zero_word N) x c q 0 (omega (arith, none_shown N f (zero_word N) early x q))))
      head_same j (Reg x c p k) q g = tt

      pub gates_early : GatesTo N f owners words late sources (3 * entry_count N f) wired
      gates_early = record {
        held = d.held;
        few = omega (arith, wired_is);
        count = omega (arith, wired_is, chain_empty, ap length no_row);
        gated = λ j l. head_same j (entry_at N f (j / 3)) (j % 3) (d.heads j l);
        heads = λ j l k. absurd (omega arith);
        regs = λ i l. d.regs i l (omega (arith, d.count));
        never = d.never;
        chain = λ i l k b. absurd (omega (arith, chain_empty));
        picks = λ o i l. absurd (omega (arith, ap length no_row));
        ahead = λ i l b. d.ahead i l b;
      }

  -- ---- after the last wire

  module _ {total : ℕ} (d : GatesTo N f owners words late sources (3 * entry_count N f) total) (few : total ≤ 1024) where
    old_length : length (map Old (places N f (zero_word N))) ≡ length (places N f (zero_word N))
    old_length = length-map (places N f (zero_word N)) Old

    -- the nodes before the gates
    entry_kept : (i : ℕ) → i < entry_count N f → SpotKept N f owners words late sources i (Old (Entry (get_or owners i 0) (get_or words i 0)))
    entry_kept i h = (
      refl,
      refl,
      d.never i h,
      λ p o.
          let a : (3 * i + p) / 3 ≡ i = omega (arith, few_operands (element_at N (get_or owners i 0))) in
          let b : (3 * i + p) % 3 ≡ p = omega (arith, few_operands (element_at N (get_or owners i 0))) in
          let g : HeadGated N f owners words late sources (3 * i + p) (Entry (get_or owners i 0) (get_or words i 0)) p =
          subst (λ (pl : Place). HeadGated N f owners words late sources (3 * i + p) pl p) (d.held i h)
          (subst (λ (q : ℕ). HeadGated N f owners words late sources (3 * i + p) (entry_at N f i) q) b
          (subst (λ (q : ℕ). HeadGated N f owners words late sources (3 * i + p) (entry_at N f q) ((3 * i + p) % 3)) a (d.gated (3 * i + p) (omega (arith, few_operands (element_at N (get_or owners i 0))))))) in
          g o,
    )

    reg_kept : (i : ℕ) (pl : Place) → RegHeld N f owners words late sources i pl → SpotKept N f owners words late sources i (Old pl)
    reg_kept i (Entry x c) g = absurd g
    reg_kept i (Reg x c p j) g = g

    place_kept : (i : ℕ) → i < length (places N f (zero_word N)) → SpotKept N f owners words late sources i (Old (get_or (places N f (zero_word N)) i no_place))
    unfolding places
    place_kept i h = ⊎_elim entry reg (lt_or_le i (entry_count N f))
      where
        entry : i < entry_count N f → SpotKept N f owners words late sources i (Old (get_or (places N f (zero_word N)) i no_place))
        entry l = subst (λ (pl : Place). SpotKept N f owners words late sources i (Old pl)) (sym (get_or-append (entry_places N f (zero_word N)) (reg_places N f (zero_word N)) no_place i l ∙ d.held i l)) (entry_kept i l)

        reg : entry_count N f ≤ i → SpotKept N f owners words late sources i (Old (get_or (places N f (zero_word N)) i no_place))
        reg l =
            let k : ℕ = i - entry_count N f in
            let e : entry_count N f + k ≡ i = omega arith in
            let at : get_or (places N f (zero_word N)) (entry_count N f + k) no_place ≡ get_or (wires_before N f (3 * entry_count N f)) k no_place =
            get_or-append-add (entry_places N f (zero_word N)) (reg_places N f (zero_word N)) k no_place ∙ ap (λ (l : List Place). get_or l k no_place) (regs_in_row N f) in
            subst (λ (n : ℕ). SpotKept N f owners words late sources n (Old (get_or (places N f (zero_word N)) n no_place))) e
            (subst (λ (pl : Place). SpotKept N f owners words late sources (entry_count N f + k) (Old pl)) (sym at) (reg_kept (entry_count N f + k) (get_or (wires_before N f (3 * entry_count N f)) k no_place) (d.regs k (omega (arith, places-length N f)))))

    -- the constant and the chain
    chain_kept : (k : ℕ) → k < length (chain_spots N f (zero_word N)) → SpotKept N f owners words late sources (length (places N f (zero_word N)) + k) (get_or (chain_spots N f (zero_word N)) k no_spot)
    unfolding chain_spots
    chain_kept k h = ⊎_elim (λ t. rw t (full k (rw t at h))) (λ t. absurd (not-suc-le-zero (rw t at h))) (true_or_false (ltb 0 (chain_length N f (zero_word N))))
      where
        quiet : get_or late (length (places N f (zero_word N)) + k) 0 ≡ 65535
        quiet = d.chain (length (places N f (zero_word N)) + k) (omega arith) (omega arith) (omega (arith, d.count))

        full : (j : ℕ) → j < length (One ∷ map Chain (below (chain_length N f (zero_word N)))) → SpotKept N f owners words late sources (length (places N f (zero_word N)) + k) (get_or (One ∷ map Chain (below (chain_length N f (zero_word N)))) j no_spot)
        full zero l = quiet
        full (suc j) l =
            subst (SpotKept N f owners words late sources (length (places N f (zero_word N)) + k))
            (sym (get_or_listed Chain (chain_length N f (zero_word N)) j no_spot (omega (arith, length_listed Chain (chain_length N f (zero_word N)))))) quiet

    spot_kept : (i : ℕ) → i < length (spots N f (zero_word N)) → SpotKept N f owners words late sources i (get_or (spots N f (zero_word N)) i no_spot)
    unfolding spots
    spot_kept i h =
        ⊎_elim
        (λ (l, e). subst (SpotKept N f owners words late sources i) (sym (e ∙ get_or_map-lt Old (places N f (zero_word N)) i no_place no_spot (omega (arith, old_length)))) (place_kept i (omega (arith, old_length))))
        (λ (m, k, l, e). behind m (omega (arith, k, old_length)) e l)
        (either no_spot (map Old (places N f (zero_word N))) (chain_spots N f (zero_word N) ++ pick_spots N f (zero_word N)) i h)
      where
        behind : (m : ℕ) → i ≡ length (places N f (zero_word N)) + m → get_or (spots N f (zero_word N)) i no_spot ≡ get_or (chain_spots N f (zero_word N) ++ pick_spots N f (zero_word N)) m no_spot
            → m < length (chain_spots N f (zero_word N) ++ pick_spots N f (zero_word N)) → SpotKept N f owners words late sources i (get_or (spots N f (zero_word N)) i no_spot)
        behind m z e l = ⊎_elim in_chain in_picks (lt_or_le m (length (chain_spots N f (zero_word N))))
          where
            in_chain : m < length (chain_spots N f (zero_word N)) → SpotKept N f owners words late sources i (get_or (spots N f (zero_word N)) i no_spot)
            in_chain y =
                subst (λ (n : ℕ). SpotKept N f owners words late sources n (get_or (spots N f (zero_word N)) i no_spot)) (sym z)
                (subst (SpotKept N f owners words late sources (length (places N f (zero_word N)) + m)) (sym (e ∙ get_or-append (chain_spots N f (zero_word N)) (pick_spots N f (zero_word N)) no_spot m y)) (chain_kept m y))

            in_picks : length (chain_spots N f (zero_word N)) ≤ m → SpotKept N f owners words late sources i (get_or (spots N f (zero_word N)) i no_spot)
            in_picks y =
                let j : ℕ = m - length (chain_spots N f (zero_word N)) in
                let place : gates_from N f + j ≡ i = omega arith in
                subst (λ (n : ℕ). SpotKept N f owners words late sources n (get_or (spots N f (zero_word N)) n no_spot)) place
                (subst (SpotKept N f owners words late sources (gates_from N f + j)) (sym (spot_at_lem N f j)) (d.picks few j (omega (arith, spots-length N f, h))))

    pub all_gated : {entries wired chain : ℕ} → entries ≡ entry_count N f → wired ≡ length (places N f (zero_word N)) → chain ≡ chain_length N f (zero_word N) → Gated N f owners words late sources entries wired chain total
    all_gated a b c = record {
      entries_are = a;
      wired_are = b;
      chain_is = c;
      count = omega (arith, d.count, spots-length N f);
      kept = λ i l. spot_kept i (omega (arith, d.count, spots-length N f));
      ahead = d.ahead;
    }

-- ---- in the plan's area

module _ (N : Net) (f : Timing) (plan : List ℕ) where
  -- the mode without gates
  pub steering_early : {entries total : ℕ} → f.origin ≡ 0 → PlanLaid N f plan entries total → total ≤ 1024 → Steering N f plan entries total 0 total
  steering_early {entries} {total} z p few =
      let e = p.exact few in
      let early : (v : ℕ) → f.origin ≤ f.lead v = λ v. omega (arith, z) in
      record {
        exact = λ o. all_gated (gates_early e.2 few early) few e.0 (wired_is e.2 few) (sym (no_length N f (zero_word N) early));
        over = λ o. absurd (omega arith);
      }

  -- there are too many nodes without gates
  pub steering_over : {entries total : ℕ} → PlanLaid N f plan entries total → 1024 < total → Steering N f plan entries total 0 total
  steering_over p h = record { exact = λ o. absurd (omega arith); over = λ o. omega (arith, p.over h, spots-length N f) }

  pub steering_all : {entries wired chain total : ℕ} → entries ≡ entry_count N f → wired ≡ length (places N f (zero_word N)) → chain ≡ chain_length N f (zero_word N)
      → AllGated N f (owners_in plan) (words_in plan) (late_in plan) (sources_in plan) total → Steering N f plan entries wired chain total
  steering_all a b c g = record { exact = λ o. all_gated (g.exact o) o a b c; over = λ o. omega (arith, g.over o, spots-length N f) }

-- where the gates begin
chain_length_lem : (N : Net) (f : Timing) {n c : ℕ} → n ≡ chain_length N f (zero_word N) → 0 < n → c ≡ suc n → c ≡ length (chain_spots N f (zero_word N))
unfolding chain_spots
chain_length_lem N f {n} {c} e h k = rw (lt-ltb 0 (chain_length N f (zero_word N)) (omega arith)) (omega (arith, length_listed Chain (chain_length N f (zero_word N))))

chain_none : (N : Net) (f : Timing) {n : ℕ} → n ≡ chain_length N f (zero_word N) → n ≡ 0 → 0 ≡ length (chain_spots N f (zero_word N))
unfolding chain_spots
chain_none N f {n} e h = rw (le-ltb 0 (chain_length N f (zero_word N)) (omega arith)) refl

pub chain_nodes : (N : Net) (f : Timing) {n c : ℕ} → n ≡ chain_length N f (zero_word N) → (0 < n → c ≡ n + 1) → (n ≡ 0 → c ≡ 0) → c ≡ length (chain_spots N f (zero_word N))
chain_nodes N f {n} {c} e some none = ⊎_elim (λ h. chain_length_lem N f e h (omega (arith, some h))) (λ h. none (omega arith) ∙ chain_none N f e (omega arith)) (lt_or_le 0 n)

-- ---- where there are too many

module _ (N : Net) (f : Timing) {owners words late sources : List ℕ} {m total : ℕ} (d : GatesTo N f owners words late sources m total) where
  pub gates_over : m ≤ 3 * entry_count N f → 1024 < total → AllGated N f owners words late sources total
  gates_over h o = record { exact = λ e. absurd (omega arith); over = λ e. omega (arith, d.count, row_longer N f (picks_on N f (zero_word N)) m (3 * entry_count N f) h) }

  pub gates_stop : (k : ℕ) → m ≤ 3 * entry_count N f → 1024 < total → (total ≤ 1024 → GatesTo N f owners words late sources k total) × (1024 < total → AllGated N f owners words late sources total)
  gates_stop k h o = (λ g. absurd (omega arith), gates_over h)

  pub gates_all : m ≡ 3 * entry_count N f → AllGated N f owners words late sources total
  gates_all e = record { exact = λ o. subst (λ (i : ℕ). GatesTo N f owners words late sources i total) e d; over = λ o. omega (arith, d.count, ap (λ (i : ℕ). length (picks_before N f i)) e) }
