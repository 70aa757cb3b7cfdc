-- From the plan's area to the plan: the reset words are taken. Assumes nothing.
use Rattle.std.specs.Prelude.{◌≡◌, refl, List, length, get_or}
use Rattle.std.proofs.Math.Path.{ap}
use Rattle.std.proofs.Common.{◌∙◌, ⊎_elim}
use Prim.Native.Nat.{ℕ, ◌+◌, ◌≤◌, ◌<◌}
use native.Mathlib.Omega.{arith}
use Rattle.lists.proofs.BelowLaws.{lt_or_le}
use Rattle.lists.proofs.Sections.{section-length}
use Rattle.netlist.specs.Net.{Net, size, element_at, source, operands, Sourced}
use Rattle.behaviour.specs.Run.{zero_word}
use Rattle.retiming.specs.Rewrite.{Timing, Entry, Reg, count_on, word_from, reset_word}
use Rattle.retiming.specs.Layout.{Stands}
use Rattle.retiming.specs.Gates.{Spot, Old, One, Chain, Shown, Pick, first_on, spots}
use Rattle.retiming.specs.GatesLayout.{no_spot, SpotSound}
use Rattle.retiming.proofs.GatesLayout.{spots_sound, chain_long}
use Rattle.first_clocks.specs.Wanted.{OfNodes, Taken}
use Rattle.wiring.specs.Wiring.{Ready, Timed, count_from_lem, asked_clock}
use Rattle.wiring.specs.WiringLaws.{asked-after, lead_few, counted, count_few}
use Rattle.plan.specs.Areas.{owners_in, words_in, late_in, sources_in}
use Rattle.plan.specs.PlanLaws.{taken_word, places-length}
use Rattle.steering.specs.Gated.{SpotKept, Gated, Steering}
use Rattle.steering.specs.GatesRow.{spots-length}
use Rattle.layout.specs.Ranges.{Ranged, ranged}
use Rattle.layout.specs.EntryWords.{EntryWords}
use Rattle.layout.specs.Planned.{SpotHeld, Planned}

module _ {N : Net} {f : Timing} {leads roots passes : List ℕ} (ready : Ready N f leads roots passes) where
  source_inside : (x c p : ℕ) → Stands N f (zero_word N) x c → p < operands (element_at N x) → source N x p < size N
  unfolding Sourced
  source_inside x c p s q = ready.formed.sourced x p s.inside q

  -- the clock of a register is one
  early_enough : (x c p j : ℕ) → Stands N f (zero_word N) x c → p < operands (element_at N x) → j < count_on N f (zero_word N) x p → j + f.lead x < 65534
  early_enough x c p j s q l =
      let h = source_inside x c p s q in
      omega (arith, count_from_lem N f x p, counted ready h refl s.inside, count_few ready h refl s.inside, lead_few ready x s.inside, ready.leads_in x s.inside)

  module _ {owners words late sources : List ℕ} {entries wired chain total : ℕ} (g : Gated N f owners words late sources entries wired chain total) (few : total ≤ 1024) where
    abbrev spot : ℕ → Spot
    spot i = get_or (spots N f (zero_word N)) i no_spot

    sound_at : (i : ℕ) → i < total → SpotSound N f (zero_word N) (spot i)
    sound_at i h = spots_sound N f (zero_word N) i (omega (arith, g.count))

    ranged_at : (i : ℕ) → i < total → Ranged entries wired chain i (spot i)
    ranged_at i h = ranged ready.suits.retimes g.entries_are g.wired_are g.chain_is i (omega (arith, g.count))

    entries-first : entries ≤ wired
    entries-first = omega (arith, g.entries_are, g.wired_are, places-length N f)

    pub entries_few : entries ≤ 1024
    entries_few = omega (arith, entries-first, g.wired_are, g.count, spots-length N f)

    -- only the constant and the chain have no old node whose width they have
    owner_inside : (i : ℕ) (sp : Spot) → SpotKept N f owners words late sources i sp → SpotSound N f (zero_word N) sp → Ranged entries wired chain i sp
        → (wired ≤ i → wired + chain < i) → get_or owners i 0 < size N
    owner_inside i (Old (Entry u c)) k s r h = omega (arith, k.0, s.inside)
    owner_inside i (Old (Reg x c p j)) k (s, q, l) r h = omega (arith, k.0, source_inside x c p s q)
    owner_inside i One k s r h = absurd (omega (arith, h (omega arith)))
    owner_inside i (Chain j) k s r h = absurd (omega (arith, h (omega (arith, r.0))))
    owner_inside i (Shown x c p j) k (s, q, l) r h = omega (arith, k.0, source_inside x c p s q)
    owner_inside i (Pick x c p j) k (s, q, l) r h = omega (arith, k.0, source_inside x c p s q)

    -- and they want no word
    asked_range : (i : ℕ) (sp : Spot) → SpotKept N f owners words late sources i sp → Ranged entries wired chain i sp → get_or late i 0 < 65534 → wired ≤ i → wired + chain < i
    asked_range i (Old (Entry u c)) k r l h = absurd (omega (arith, k.2))
    asked_range i (Old (Reg x c p j)) k r l h = absurd (omega (arith, r.1))
    asked_range i One k r l h = absurd (omega arith)
    asked_range i (Chain j) k r l h = absurd (omega arith)
    asked_range i (Shown x c p j) k r l h = r
    asked_range i (Pick x c p j) k r l h = r

    inside : (i : ℕ) → i < total → (wired ≤ i → wired + chain < i) → get_or owners i 0 < size N
    inside i h = owner_inside i (spot i) (g.kept i h) (sound_at i h) (ranged_at i h)

    pub of_nodes : length late ≡ 1024 → OfNodes N late owners
    of_nodes l i h b =
        ⊎_elim (λ y. inside i y (asked_range i (spot i) (g.kept i y) (ranged_at i y) b)) (λ y. absurd (omega (arith, g.ahead i y (omega arith)))) (lt_or_le i total)

    module _ {found made : List ℕ} (long : length late ≡ 1024) (begun : EntryWords words entries found) (t : Taken N late owners found made) where
      -- a word whose clock is asked for
      taken : (i x p j : ℕ) → i < total → entries ≤ i → j + f.lead x < 65534 → get_or owners i 0 ≡ source N x p → get_or late i 0 ≡ asked_clock f.origin (j + f.lead x)
          → get_or made i 0 ≡ reset_word N f (zero_word N) x p j
      unfolding reset_word
      taken i x p j h r small o e =
          taken_word N t i (omega arith) f.origin (j + f.lead x) small e (begun.behind i r (omega arith)) ∙ ap (word_from f.origin (zero_word N) (j + f.lead x)) o

      spot_held : (i : ℕ) → i < total → (sp : Spot) → SpotKept N f owners words late sources i sp → SpotSound N f (zero_word N) sp → Ranged entries wired chain i sp
          → SpotHeld N f owners made late sources i sp
      unfolding first_on
      spot_held i h (Old (Entry u c)) k s r = (k.0, t.others i (omega (arith, k.2)) ∙ begun.entry i r ∙ k.1, k.3)
      spot_held i h (Old (Reg x c p j)) k (s, q, l) r = (k.0, taken i x p j h r.0 (early_enough x c p j s q l) k.0 k.1, k.2)
      spot_held i h One k s r = tt
      spot_held i h (Chain j) k s r = tt
      spot_held i h (Shown x c p j) k (s, q, l) r =
          let n : ℕ = first_on N f (zero_word N) x + j in
          let ok = ready.suits.retimes in
          let early = chain_long N f (zero_word N) ok.sourced ok.rooted ok.serves x c p s q j l in
          let small : n + f.lead x < 65534 = omega (arith, early, g.chain_is, ready.suits.few x s.inside) in
          let after : f.origin ≤ n + f.lead x = omega arith in
          (k.0, taken i x p n h (omega (arith, entries-first)) small k.0 k.1, omega (arith, k.1, asked-after after))
      spot_held i h (Pick x c p j) k s r = k

      pub planned : Planned N f owners made late sources entries wired chain total
      planned = record {
        first = entries-first;
        wired_are = g.wired_are;
        count = g.count;
        ranged = ranged_at;
        inside = inside;
        held = λ i h. spot_held i h (spot i) (g.kept i h) (sound_at i h) (ranged_at i h);
      }

-- ---- in the plan's area

module _ {N : Net} {f : Timing} {timing : List ℕ} (plan : List ℕ) (ready : Timed N f timing) {entries wired chain total : ℕ} (st : Steering N f plan entries wired chain total)
    (few : total ≤ 1024) (long : length plan ≡ 7168) where
  pub late_long : length (late_in plan) ≡ 1024
  late_long = section-length 2048 1024 plan (omega arith)

  pub few_entries : entries ≤ 1024
  few_entries = entries_few ready (st.exact few) few

  pub late_of_nodes : OfNodes N (late_in plan) (owners_in plan)
  late_of_nodes = of_nodes ready (st.exact few) few late_long

  pub reset_planned : {found made : List ℕ} → EntryWords (words_in plan) entries found → Taken N (late_in plan) (owners_in plan) found made
      → Planned N f (owners_in plan) made (late_in plan) (sources_in plan) entries wired chain total
  reset_planned begun t = planned ready (st.exact few) few late_long begun t
