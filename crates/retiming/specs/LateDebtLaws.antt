-- The late start's 11, 12 and 13 of a netlist, each if and only if, with its place. Assumes nothing.
use Rattle.std.specs.Prelude.{◌≡◌, true, ℕ, ◌<◌}
use Rattle.netlist.specs.Net.{Net, size, element_at, is_input}
use Rattle.retiming.specs.LateLeads.{at_output, late_ends}
use Rattle.retiming.specs.LateLeadsLaws.{PositiveClosedTo, OwesTo}

-- a closed walk from which an output port can be reached has positive excess
abbrev pub LateClosed : Net → Type 0
LateClosed N = PositiveClosedTo N (at_output N)

-- a walk from v to an output port has
abbrev pub LateOwes : Net → ℕ → Type 0
LateOwes N v = OwesTo N (late_ends N) v

-- 12's place: the lowest input port from which a walk to an output port has positive excess
pub record LowestLate (N : Net) (v : ℕ) : Type 0 where
  pub inside : v < size N
  pub input : is_input (element_at N v) ≡ true
  pub owes : LateOwes N v
  pub none_lower : (u : ℕ) → u < v → is_input (element_at N u) ≡ true → LateOwes N u → ⊥

-- there is none
abbrev pub NoneLate : Net → Type 0
NoneLate N = (v : ℕ) → v < size N → is_input (element_at N v) ≡ true → LateOwes N v → ⊥
