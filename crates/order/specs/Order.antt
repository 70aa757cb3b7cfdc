-- An order of nodes in the making, each after those that it reads by steps of a class. Assumes nothing.
use Rattle.std.specs.Prelude.{◌≡◌, Bool, true, List, ℕ, ◌≤◌, ◌<◌, length}
use Rattle.lists.specs.Lists.{all_below, count_below}
use Rattle.lists.specs.Sections.{section}
use Rattle.netlist.specs.Net.{Class, in_clock, in_registers, Net, size, element_at, source}
use Rattle.netlist.specs.Rank.{Through}
use Rattle.circuit.specs.Order.{Stands, Ordered, Complete}
use Rattle.order.specs.Pass.{on, Once, Swept}
use Rattle.order.specs.declared.Steps.{Steps}
use Rattle.order.specs.declared.Steps.TheVariants.{InClock, InRegisters}

-- the class of steps of check 9, and of check 10
abbrev pub class_of : Steps → Class
class_of InClock = in_clock
class_of InRegisters = in_registers

-- the sections of the area of an order in the making
abbrev pub order_in : List ℕ → List ℕ
order_in l = section 0 1024 l

abbrev pub flags_in : List ℕ → List ℕ
flags_in l = section 3072 1024 l

-- ---- an order in the making: k nodes stand in it, and these are flagged

pub record Placed (K : Class) (N : Net) (flags order : List ℕ) (k : ℕ) : Type 0 where
  pub flags_room : size N ≤ length flags
  pub order_room : size N ≤ length order
  pub ordered : Ordered K N order k
  pub count : count_below (λ v. on flags v) (size N) ≡ k
  pub stands : (v : ℕ) → v < size N → on flags v ≡ true → Stands order k v

-- all that v reads is flagged
abbrev pub ready : Class → Net → List ℕ → ℕ → Bool
ready K N flags v = all_below (K.of (element_at N v)) (λ p. on flags (source N v p))

-- a try at node v, and tries at the first i nodes
abbrev pub PlacedOnce : Class → Net → List ℕ → List ℕ → List ℕ → ℕ → ℕ → ℕ → Type 0
PlacedOnce K N flags₀ flags order k₀ k v = Once (Placed K N flags order k) (ready K N) flags₀ flags k₀ k v

abbrev pub PlacedPass : Class → Net → List ℕ → List ℕ → List ℕ → ℕ → ℕ → ℕ → Type 0
PlacedPass K N flags₀ flags order k₀ k i = Swept (Placed K N flags order k) (ready K N) flags₀ flags k₀ k i

-- what the placing of all nodes leaves, k of them placed: all, in an order; or a node that reaches itself
pub record Outcome (K : Class) (N : Net) (order : List ℕ) (k : ℕ) : Type 0 where
  pub few : k ≤ size N
  pub full : k ≡ size N → Complete K N order
  pub left : k < size N → (u : ℕ) × Through K N u u
