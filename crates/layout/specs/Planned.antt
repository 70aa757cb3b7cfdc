-- The plan of the new netlist: what an area and the words hold of each of its nodes. Assumes nothing.
use Rattle.std.specs.Prelude.{◌≡◌, List, ℕ, suc, ◌+◌, ◌*◌, ◌≤◌, ◌<◌, length, get_or}
use Rattle.netlist.specs.Net.{Net, size, element_at, source, operands}
use Rattle.behaviour.specs.Run.{zero_word}
use Rattle.retiming.specs.Rewrite.{Timing, Entry, Reg, reset_word, places, number_of, along}
use Rattle.retiming.specs.Gates.{Spot, Old, One, Chain, Shown, Pick, first_on, spots, spot_number, picked}
use Rattle.retiming.specs.GatesLayout.{no_spot}
use Rattle.retiming.specs.Modes.{mode_timing}
use Rattle.plan.specs.Areas.{owners_in, late_in, sources_in}
use Rattle.steering.specs.declared.Steered.{Steered}
use Rattle.layout.specs.Ranges.{Ranged}

module _ (N : Net) (f : Timing) (owners words late sources : List ℕ) where
  -- of node i at a spot: the old node whose width it has, its reset word or constant, and what it reads. A constant of a wire has a clock, and its gate has none
  abbrev pub SpotHeld : ℕ → Spot → Type 0
  SpotHeld i (Old (Entry u c)) =
      (get_or owners i 0 ≡ u) × (get_or words i 0 ≡ c)
      × ((p : ℕ) → p < operands (element_at N u) → get_or sources (3 * i + p) 0 ≡ spot_number N f (zero_word N) (picked N f (zero_word N) u c p 0))
  SpotHeld i (Old (Reg x c p j)) =
      (get_or owners i 0 ≡ source N x p) × (get_or words i 0 ≡ reset_word N f (zero_word N) x p j)
      × (get_or sources (3 * i) 0 ≡ number_of N f (zero_word N) (along N f (zero_word N) x c p (suc j)))
  SpotHeld i One = Unit {0}
  SpotHeld i (Chain k) = Unit {0}
  SpotHeld i (Shown x c p k) =
      (get_or owners i 0 ≡ source N x p) × (get_or words i 0 ≡ reset_word N f (zero_word N) x p (first_on N f (zero_word N) x + k)) × (get_or late i 0 < 65534)
  SpotHeld i (Pick x c p k) =
      (get_or owners i 0 ≡ source N x p) × (get_or late i 0 ≡ 65535)
      × (get_or sources (3 * i) 0 ≡ spot_number N f (zero_word N) (Chain (first_on N f (zero_word N) x + k)))
      × (get_or sources (3 * i + 1) 0 ≡ spot_number N f (zero_word N) (picked N f (zero_word N) x c p (suc k)))
      × (get_or sources (3 * i + 2) 0 ≡ spot_number N f (zero_word N) (Shown x c p k))

  pub record Planned (entries wired chain total : ℕ) : Type 0 where
    pub first : entries ≤ wired
    pub wired_are : wired ≡ length (places N f (zero_word N))
    pub count : total ≡ length (spots N f (zero_word N))
    pub ranged : (i : ℕ) → i < total → Ranged entries wired chain i (get_or (spots N f (zero_word N)) i no_spot)
    -- of the constant and the chain it is not known
    pub inside : (i : ℕ) → i < total → (wired ≤ i → wired + chain < i) → get_or owners i 0 < size N
    pub held : (i : ℕ) → i < total → SpotHeld i (get_or (spots N f (zero_word N)) i no_spot)

-- of a plan with its gates, the plan's area and the reset words
abbrev pub PlannedBy : Net → Steered → List ℕ → List ℕ → Type 0
PlannedBy N made plan words =
    Planned N (mode_timing made.mode N) (owners_in plan) words (late_in plan) (sources_in plan) made.entries made.wired made.chain made.total
