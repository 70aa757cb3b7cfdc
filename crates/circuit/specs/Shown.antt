-- What an opened netlist shows: the file that holds its tables, the netlist, and an order of its nodes beside it. Assumes nothing.
use Rattle.std.specs.Prelude.{[], ◌∷◌, ◌++◌, List, ℕ, length, get_or, set, ltb}
use Rattle.lists.specs.Lists.{select}
use Rattle.netlist.specs.declared.Node.{Node}
use Rattle.netlist.specs.Net.{Net, no_table, node_at}
use Rattle.netlist.specs.Trim.{node_over}
use Rattle.circuit.specs.Circuit.{net_of, order_of}

pub record Shown : Type 0 where
  pub file : List ℕ
  pub net : Net
  pub order : List ℕ

-- by the words of a circuit whose tables stand in the file s
abbrev pub shown_by : List ℕ → List ℕ → Shown
shown_by s l = record { file = s; net = net_of s l; order = order_of l }

-- place i of the order is written
abbrev pub with_turn : Shown → ℕ → ℕ → Shown
with_turn h i x = record { file = h.file; net = h.net; order = set h.order i x }

-- no node, over the tables of a netlist
abbrev pub no_nodes : Net → Net
no_nodes N = record { tables = N.tables; nodes = [] }

-- one node more
abbrev pub with_node : Net → Node → Net
with_node N x = record { tables = N.tables; nodes = N.nodes ++ x ∷ [] }

-- node v over table k
abbrev pub with_table : Net → ℕ → ℕ → Net
with_table N v k = record { tables = N.tables; nodes = set N.nodes v (node_over k (node_at N v)) }

-- the marked tables alone
abbrev pub with_marked : Net → List ℕ → Net
with_marked N marks = record {
  tables = select (λ t. ltb 0 (get_or marks t 0)) (λ t. get_or N.tables t no_table) (length N.tables);
  nodes = N.nodes;
}
