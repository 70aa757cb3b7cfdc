-- What the words of a circuit show after its tables got other numbers. Assumes nothing.
use Rattle.std.specs.Prelude.{◌≡◌, List, ℕ, length, get_or, set, ltb}
use Rattle.lists.specs.Lists.{select}
use Rattle.netlist.specs.Net.{nowhere}
use Rattle.netlist.specs.Trim.{node_over}
use Rattle.circuit.specs.Circuit.{nodes_of, tables_of, Formed}

-- m is l with node v over table k
pub record Retabled (l : List ℕ) (v k : ℕ) (m : List ℕ) : Type 0 where
  pub formed : Formed m
  pub tables : tables_of m ≡ tables_of l
  pub nodes : nodes_of m ≡ set (nodes_of l) v (node_over k (get_or (nodes_of l) v nowhere))

-- m is l with the marked tables alone
pub record Kept (marks l m : List ℕ) : Type 0 where
  pub formed : Formed m
  pub tables : tables_of m ≡ select (λ t. ltb 0 (get_or marks t 0)) (λ t. get_or (tables_of l) t 0) (length (tables_of l))
  pub nodes : nodes_of m ≡ nodes_of l
