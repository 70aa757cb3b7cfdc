-- A netlist without the tables that no node reads: document 02, T-06, "leaves out any table that no written node reads and numbers the others anew". Assumes nothing.
use Rattle.std.specs.Prelude.{map, ℕ, length, get_or}
use Rattle.lists.specs.Lists.{count_below, select}
use Rattle.netlist.specs.declared.Element.{Element}
use Rattle.netlist.specs.declared.Element.TheVariants.{Input, Output, Register, Async, Clocked, Gate}
use Rattle.netlist.specs.declared.Node.{Node}
use Rattle.netlist.specs.Net.{no_table, table_of, retabled, Net}
use Rattle.netlist.specs.Verdict.{table_in_use}

-- a table's new number: how many of those before it are in use
unfoldable pub table_number : Net → ℕ → ℕ
table_number N m = count_below (table_in_use N) m

-- an element, and a node, over table k
abbrev pub over_table : ℕ → Element → Element
over_table k Input = Input
over_table k Output = Output
over_table k (Register r) = Register r
over_table k (Async m) = Async (retabled m k)
over_table k (Clocked m r) = Clocked (retabled m k) r
over_table k (Gate o) = Gate o

abbrev pub node_over : ℕ → Node → Node
node_over k n = record { element = over_table k n.element; width = n.width; sources = n.sources }

-- its table at the new number
unfoldable pub renumbered : (ℕ → ℕ) → Node → Node
renumbered g n = node_over (g (table_of n.element)) n

unfoldable pub trimmed : Net → Net
trimmed N = record {
  tables = select (table_in_use N) (λ m. get_or N.tables m no_table) (length N.tables);
  nodes = map (renumbered (table_number N)) N.nodes;
}
