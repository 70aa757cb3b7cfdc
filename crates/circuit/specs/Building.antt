-- A circuit is built node by node. Assumes nothing.
use Rattle.std.specs.Prelude.{◌≡◌, ℕ, ◌+◌, ◌≤◌, set, take}
use mathlib.Core.List.{List, [], ◌∷◌, ◌++◌}
use Rattle.std.proofs.Math.ListN.{length}
use Rattle.netlist.specs.declared.Node.{Node}
use Rattle.circuit.specs.Circuit.{nodes_of, tables_of, Formed}

-- ---- a row is written, and counted

-- eight stores in a row
abbrev pub stored : List ℕ → ℕ → ℕ → ℕ → ℕ → ℕ → ℕ → ℕ → ℕ → ℕ → List ℕ
stored l i a b c d e f g h = set (set (set (set (set (set (set (set l i a) (i + 1) b) (i + 2) c) (i + 3) d) (i + 4) e) (i + 5) f) (i + 6) g) (i + 7) h

-- ---- the circuit with one node more

-- m shows one node more than l, x
pub record Pushed (l : List ℕ) (x : Node) (m : List ℕ) : Type 0 where
  pub formed : Formed m
  pub tables : tables_of m ≡ tables_of l
  pub nodes : nodes_of m ≡ nodes_of l ++ (x ∷ [])

-- ---- THE INVARIANT of a pass that builds a circuit node by node

pub record Built (ts : List ℕ) (xs : List Node) (l : List ℕ) : Type 0 where
  pub formed : Formed l
  pub tables : tables_of l ≡ ts
  pub nodes : nodes_of l ≡ xs

-- the first v nodes of a list are in the circuit
pub record Building (ts : List ℕ) (xs : List Node) (l : List ℕ) (v : ℕ) : Type 0 where
  pub below : v ≤ length xs
  pub built : Built ts (take v xs) l
