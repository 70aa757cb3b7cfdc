-- An order of nodes in which each comes after those that it reads by steps of a class. Assumes nothing.
use Rattle.std.specs.Prelude.{◌≡◌, List, ℕ, ◌<◌, get_or}
use Rattle.netlist.specs.Net.{Class, Net, size, element_at, source}

-- v stands among the first k of a list
abbrev pub Stands : List ℕ → ℕ → ℕ → Type 0
Stands order k v = (j : ℕ) × (j < k) × (get_or order j 0 ≡ v)

-- the first k of a list are nodes, and each comes after those that it reads: a topological order
pub record Ordered (K : Class) (N : Net) (order : List ℕ) (k : ℕ) : Type 0 where
  pub inside : (i : ℕ) → i < k → get_or order i 0 < size N
  pub after : (i p : ℕ) → i < k → p < K.of (element_at N (get_or order i 0)) → Stands order i (source N (get_or order i 0) p)

-- and every node is there
pub record Complete (K : Class) (N : Net) (order : List ℕ) : Type 0 where
  pub ordered : Ordered K N order (size N)
  pub all : (v : ℕ) → v < size N → Stands order (size N) v
