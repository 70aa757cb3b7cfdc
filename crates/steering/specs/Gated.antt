-- What an area holds of each node of the new netlist, gates included, before its reset words are known. Assumes nothing.
use Rattle.std.specs.Prelude.{◌≡◌, List, ℕ, suc, ◌+◌, ◌*◌, ◌≤◌, ◌<◌, length, get_or}
use Rattle.netlist.specs.Net.{Net, element_at, source, operands}
use Rattle.behaviour.specs.Run.{zero_word}
use Rattle.retiming.specs.Rewrite.{Timing, Entry, Reg, places, number_of, along}
use Rattle.retiming.specs.Gates.{Spot, Old, One, Chain, Shown, Pick, first_on, chain_length, spots, spot_number, picked}
use Rattle.retiming.specs.GatesLayout.{no_spot}
use Rattle.wiring.specs.Wiring.{asked_clock}
use Rattle.plan.specs.Areas.{owners_in, words_in, late_in, sources_in}
use Rattle.plan.specs.Registers.{entry_count}

module _ (N : Net) (f : Timing) (owners words late sources : List ℕ) where
  -- of node i at a spot: the old node whose width it has, the word of an entry, the clock of a reset word or a constant (none where it has neither), and what it reads
  abbrev pub SpotKept : ℕ → Spot → Type 0
  SpotKept i (Old (Entry u c)) =
      (get_or owners i 0 ≡ u) × (get_or words i 0 ≡ c) × (get_or late i 0 ≡ 65535)
      × ((p : ℕ) → p < operands (element_at N u) → get_or sources (3 * i + p) 0 ≡ spot_number N f (zero_word N) (picked N f (zero_word N) u c p 0))
  SpotKept i (Old (Reg x c p j)) =
      (get_or owners i 0 ≡ source N x p) × (get_or late i 0 ≡ asked_clock f.origin (j + f.lead x))
      × (get_or sources (3 * i) 0 ≡ number_of N f (zero_word N) (along N f (zero_word N) x c p (suc j)))
  SpotKept i One = get_or late i 0 ≡ 65535
  SpotKept i (Chain k) = get_or late i 0 ≡ 65535
  SpotKept i (Shown x c p k) = (get_or owners i 0 ≡ source N x p) × (get_or late i 0 ≡ asked_clock f.origin (first_on N f (zero_word N) x + k + f.lead x))
  SpotKept i (Pick x c p k) =
      (get_or owners i 0 ≡ source N x p) × (get_or late i 0 ≡ 65535)
      × (get_or sources (3 * i) 0 ≡ spot_number N f (zero_word N) (Chain (first_on N f (zero_word N) x + k)))
      × (get_or sources (3 * i + 1) 0 ≡ spot_number N f (zero_word N) (picked N f (zero_word N) x c p (suc k)))
      × (get_or sources (3 * i + 2) 0 ≡ spot_number N f (zero_word N) (Shown x c p k))

  -- entries, then registers, then the constant and the chain where there are gates, then the gates with their constants
  pub record Gated (entries wired chain total : ℕ) : Type 0 where
    pub entries_are : entries ≡ entry_count N f
    pub wired_are : wired ≡ length (places N f (zero_word N))
    pub chain_is : chain ≡ chain_length N f (zero_word N)
    pub count : total ≡ length (spots N f (zero_word N))
    pub kept : (i : ℕ) → i < total → SpotKept i (get_or (spots N f (zero_word N)) i no_spot)
    pub ahead : (i : ℕ) → total ≤ i → i < 1024 → get_or late i 0 ≡ 65535

-- the plan's area holds all of it, or it is known that there are too many nodes
pub record Steering (N : Net) (f : Timing) (plan : List ℕ) (entries wired chain total : ℕ) : Type 0 where
  pub exact : total ≤ 1024 → Gated N f (owners_in plan) (words_in plan) (late_in plan) (sources_in plan) entries wired chain total
  pub over : 1024 < total → 1024 < length (spots N f (zero_word N))
