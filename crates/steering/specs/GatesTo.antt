-- The gates wire by wire: those of the first m wires stand, and their readers read them. Assumes nothing.
use Rattle.std.specs.Prelude.{◌≡◌, cond, List, ℕ, suc, ◌+◌, ◌*◌, ◌/◌, ◌%◌, ◌≤◌, ◌<◌, length, get_or, ltb}
use Rattle.netlist.specs.Net.{Net, element_at, operands}
use Rattle.behaviour.specs.Run.{zero_word}
use Rattle.retiming.specs.Rewrite.{Timing, Place, Entry, Reg, entry_places, places}
use Rattle.retiming.specs.Layout.{no_place}
use Rattle.retiming.specs.Gates.{Spot, picks_on, chain_spots, spot_number, picked}
use Rattle.retiming.specs.GatesLayout.{no_spot}
use Rattle.plan.specs.Areas.{owners_in, words_in, late_in, sources_in}
use Rattle.plan.specs.Entries.{Stored}
use Rattle.plan.specs.Registers.{entry_count, entry_at, row_before, wires_before, HeadHeld, RegHeld}
use Rattle.steering.specs.Gated.{SpotKept}

-- what gate t of a wire reads where it is steered by 1: the next gate, and the last one the wire
unfoldable pub gate_after : ℕ → ℕ → ℕ → ℕ → ℕ
gate_after head start count t = cond (ltb (suc t) count) (start + 2 * t + 3) head

-- of the constants and gates of a wire from s, which stand from `start` on, the first are put: so many are done. Its k-th constant has the word of clock `clock` + k, and its
-- gate is steered by node `steer` + k. What is before them stays, and no clock after them is wanted
pub record PutsPairs (s head clock steer count start done : ℕ) (owners late sources owners' late' sources' : List ℕ) : Type 0 where
  pub owner : (t : ℕ) → t < done → start + 2 * t + 1 < 1024 → (get_or owners' (start + 2 * t) 0 ≡ s) × (get_or owners' (start + 2 * t + 1) 0 ≡ s)
  pub clocks : (t : ℕ) → t < done → start + 2 * t + 1 < 1024 → (get_or late' (start + 2 * t) 0 ≡ clock + t) × (get_or late' (start + 2 * t + 1) 0 ≡ 65535)
  pub reads : (t : ℕ) → t < done → start + 2 * t + 1 < 1024
      → (get_or sources' (3 * (start + 2 * t + 1)) 0 ≡ steer + t) × (get_or sources' (3 * (start + 2 * t + 1) + 1) 0 ≡ gate_after head start count t) × (get_or sources' (3 * (start + 2 * t + 1) + 2) 0 ≡ start + 2 * t)
  pub owners_before : (i : ℕ) → i < start → get_or owners' i 0 ≡ get_or owners i 0
  pub late_before : (i : ℕ) → i < start → get_or late' i 0 ≡ get_or late i 0
  pub late-after : (i : ℕ) → start + 2 * done ≤ i → get_or late' i 0 ≡ get_or late i 0
  pub sources_before : (i : ℕ) → i < 3 * start → get_or sources' i 0 ≡ get_or sources i 0

module _ (N : Net) (f : Timing) where
  -- the gates of the first m wires, three to an entry, and where they begin
  abbrev pub picks_before : ℕ → List Spot
  picks_before m = row_before N f (picks_on N f (zero_word N)) m

  abbrev pub gates_from : ℕ
  gates_from = length (places N f (zero_word N)) + length (chain_spots N f (zero_word N))

  module _ (owners words late sources : List ℕ) where
    -- an entry's operand p reads the first gate of its wire, or the wire where it has none
    abbrev pub HeadGated : ℕ → Place → ℕ → Type 0
    HeadGated m (Entry x c) p = p < operands (element_at N x) → get_or sources m 0 ≡ spot_number N f (zero_word N) (picked N f (zero_word N) x c p 0)
    HeadGated m (Reg x c p j) q = Unit {0}

    pub record GatesTo (m total : ℕ) : Type 0 where
      pub held : Stored owners words (entry_places N f (zero_word N))
      pub few : length (places N f (zero_word N)) ≤ 1024
      pub count : total ≡ gates_from + length (picks_before m)
      pub gated : (j : ℕ) → j < m → HeadGated j (entry_at N f (j / 3)) (j % 3)
      pub heads : (j : ℕ) → m ≤ j → j < 3 * entry_count N f → HeadHeld N f owners words late sources j (entry_at N f (j / 3)) (j % 3)
      pub regs : (i : ℕ) → i < length (wires_before N f (3 * entry_count N f))
          → RegHeld N f owners words late sources (entry_count N f + i) (get_or (wires_before N f (3 * entry_count N f)) i no_place)
      pub never : (i : ℕ) → i < entry_count N f → get_or late i 0 ≡ 65535
      pub chain : (i : ℕ) → length (places N f (zero_word N)) ≤ i → i < gates_from → i < 1024 → get_or late i 0 ≡ 65535
      pub picks : total ≤ 1024 → (i : ℕ) → i < length (picks_before m) → SpotKept N f owners words late sources (gates_from + i) (get_or (picks_before m) i no_spot)
      pub ahead : (i : ℕ) → total ≤ i → i < 1024 → get_or late i 0 ≡ 65535

    -- all stand, or it is known that there are too many nodes
    pub record AllGated (total : ℕ) : Type 0 where
      pub exact : total ≤ 1024 → GatesTo (3 * entry_count N f) total
      pub over : 1024 < total → 1024 < gates_from + length (picks_before (3 * entry_count N f))

  -- in the plan's area
  abbrev pub GatesIn : List ℕ → ℕ → ℕ → Type 0
  GatesIn plan m total = GatesTo (owners_in plan) (words_in plan) (late_in plan) (sources_in plan) m total

  abbrev pub AllGatedIn : List ℕ → ℕ → Type 0
  AllGatedIn plan total = AllGated (owners_in plan) (words_in plan) (late_in plan) (sources_in plan) total
