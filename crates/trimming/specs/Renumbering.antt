-- The nodes of a circuit, from the first on, read their tables at new numbers. Assumes nothing.
use Rattle.std.specs.Prelude.{List, map, ℕ, ◌≤◌, length}
use Rattle.lists.proofs.Mapped.{mapped_to}
use Rattle.netlist.specs.Net.{Net}
use Rattle.netlist.specs.Trim.{renumbered}
use Rattle.circuit.specs.Circuit.{nodes_of, tables_of}
use Rattle.circuit.specs.Building.{Built}

-- THE INVARIANT: the first v nodes of l are renumbered in m
pub record Renumbering (g : ℕ → ℕ) (l : List ℕ) (v : ℕ) (m : List ℕ) : Type 0 where
  pub below : v ≤ length (nodes_of l)
  pub built : Built (tables_of l) (mapped_to (renumbered g) v (nodes_of l)) m

-- all nodes of a netlist
abbrev pub all_renumbered : (ℕ → ℕ) → Net → Net
all_renumbered g N = record { tables = N.tables; nodes = map (renumbered g) N.nodes }
