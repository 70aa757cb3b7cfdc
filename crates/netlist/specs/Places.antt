-- A check over nodes, or over tables, among others: it refuses just where one of them breaks its rule, with the lowest such. Assumes nothing.
use Rattle.std.specs.Prelude.{◌≡◌, List, [], ◌∷◌, ℕ, ◌<◌}
use Rattle.netlist.specs.Verdict.{Stage}

-- v is the lowest of n nodes, or tables, that P holds of
pub record LowestOf (n : ℕ) (P : ℕ → Type 0) (v : ℕ) : Type 0 where
  pub inside : v < n
  pub holds : P v
  pub none_lower : (u : ℕ) → u < v → P u → ⊥

-- no check has this number
abbrev pub Lacks : ℕ → List Stage → Type 0
Lacks k [] = Unit {0}
Lacks k (s ∷ l) = (s.number ≡ k → ⊥) × Lacks k l
