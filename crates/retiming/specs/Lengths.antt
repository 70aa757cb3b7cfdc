-- The length of a walk, the operands that it goes through, and what it means that a new netlist keeps the length: document 02, T-07. Assumes nothing.
use Rattle.std.specs.Prelude.{◌≡◌, ◌⊎◌, not, List, [], ◌∷◌, ◌++◌, map, ℕ, ◌+◌, ◌<◌, get_or}
use Rattle.words.specs.declared.Op.TheVariants.{Constant, Choose}
use Rattle.netlist.specs.declared.Element.{Element}
use Rattle.netlist.specs.declared.Element.TheVariants.{Register, Gate}
use Rattle.lists.specs.Lists.{one, only}
use Rattle.netlist.specs.Net.{Net, size, element_at, width_at, holds_word, is_register}
use Rattle.behaviour.specs.Run.{zero_word}
use Rattle.retiming.specs.declared.Mode.{Mode}
use Rattle.retiming.specs.declared.Mode.TheVariants.{Plain, Late}
use Rattle.retiming.specs.Leads.{Walk, here, step}
use Rattle.retiming.specs.LateLeads.{at_output, Counts}
use Rattle.retiming.specs.Rewrite.{Timing, Entry, Reg, new_element}
use Rattle.retiming.specs.Gates.{Spot, Old, One, Chain, Shown, Pick, spots}
use Rattle.retiming.specs.Modes.{mode_timing}

-- "enters as many registers and clocked ROMs together": its latency, the clocks that a word takes along it
unfoldable pub latency : {N : Net} {u v : ℕ} → Walk N u v → ℕ
latency (here e) = 0
latency {N} (step {x = x} r w) = one (holds_word (element_at N x)) + latency w

-- ---- "through the same operands of the same nodes, registers and T-05's gates aside"

-- an operand of a node: an input pin, in a netlist's terms
pub record Pin : Type 0 where
  pub node : ℕ
  pub operand : ℕ

unfoldable pub pin : ℕ → ℕ → Pin
pin p x = record { node = x; operand = p }

-- the pins at which a walk enters nodes. `known` is the number by which a node is known, or none where it is left aside
unfoldable pub pins : (ℕ → List ℕ) → {N : Net} {u v : ℕ} → Walk N u v → List Pin
pins known (here e) = []
pins known (step {x = x} r w) = map (pin r.operand) (known x) ++ pins known w

-- a node of the old file is known by its number, unless it is a register
unfoldable pub itself : Net → ℕ → List ℕ
itself N x = only (not (is_register (element_at N x))) x

-- a node of the new file by that of the old node that it comes from: each copy of a split ROM by that ROM, and no register and no added node
abbrev pub came_from : Spot → List ℕ
came_from (Old (Entry u c)) = u ∷ []
came_from (Old (Reg x c p j)) = []
came_from One = []
came_from (Chain i) = []
came_from (Shown x c p k) = []
came_from (Pick x c p k) = []

unfoldable pub comes_from_by : (N : Net) (f : Timing) (Z : ℕ → ℕ → ℕ) → ℕ → List ℕ
comes_from_by N f Z i = get_or (map came_from (spots N f Z)) i []

abbrev pub comes_from : Mode → Net → ℕ → List ℕ
comes_from mode N = comes_from_by N (mode_timing mode N) (zero_word N)

-- "the same nodes": node i of the new netlist is node u of the old one; a ROM is clocked, its table may have another number, and it has a reset word
pub record SameNode (N M : Net) (u i : ℕ) : Type 0 where
  pub inside : i < size M
  pub width : width_at M i ≡ width_at N u
  pub table : ℕ
  pub reset : ℕ
  pub element : element_at M i ≡ new_element (element_at N u) table reset

-- what is left aside: a register, a constant or a choose gate
abbrev pub Aside : Element → Type 0
Aside e = ((r : ℕ) × (e ≡ Register r)) ⊎ (((k : ℕ) × (e ≡ Gate (Constant k))) ⊎ (e ≡ Gate Choose))

-- "the walks it has not left out": of the closed ones the late start leaves out those from which no output port can be reached
abbrev pub NotLeftOut : Mode → Net → ℕ → Type 0
NotLeftOut Plain N u = Unit {0}
NotLeftOut Late N u = Counts N (at_output N) u

-- ---- what is kept: of the old netlist N and the new one M

module _ (N M : Net) (known : ℕ → List ℕ) where
  abbrev pub SameOperands : {u v i j : ℕ} → Walk N u v → Walk M i j → Type 0
  SameOperands w z = pins known z ≡ pins (itself N) w

  -- of a closed walk: M has one through the same operands, and every such walk enters as many
  pub record LoopKept {u : ℕ} (w : Walk N u u) : Type 0 where
    pub node : ℕ
    pub loop : Walk M node node
    pub through : SameOperands w loop
    pub as_long : (i : ℕ) (z : Walk M i i) → SameOperands w z → latency z ≡ latency w

  -- of a walk from port to port: likewise, between the same ports
  pub record PathKept {u v : ℕ} (w : Walk N u v) : Type 0 where
    pub first : ℕ
    pub last : ℕ
    pub begins : known first ≡ u ∷ []
    pub ends : known last ≡ v ∷ []
    pub path : Walk M first last
    pub through : SameOperands w path
    pub as_long : (i j : ℕ) → known i ≡ u ∷ [] → known j ≡ v ∷ [] → (z : Walk M i j) → SameOperands w z → latency z ≡ latency w
