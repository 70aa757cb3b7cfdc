-- A CIRCUIT is an opened netlist in one list of words: how many nodes and tables, where the tables stand in the caller's file, then a row of words for each node.
-- A request that wants one word more of a node adds a place to the row. Assumes nothing.
use Rattle.std.specs.Prelude.{◌≡◌, List, [], ◌∷◌, map, ℕ, ◌+◌, ◌*◌, ◌≤◌, ◌<◌, length, get_or}
use Rattle.lists.specs.Lists.{below}
use Rattle.netlist.specs.declared.Node.{Node}
use Rattle.netlist.specs.ScanLaws.{TableAt}
use Rattle.netlist.specs.File.{table_in}
use Rattle.netlist.specs.Net.{Net, size, operands}
use Rattle.circuit.specs.Code.{Coded, element_by}
use Rattle.circuit.specs.declared.Row.{Row}

-- where the rows begin, the words of a row, and of a circuit of 1,024 nodes
abbrev pub rows_from : ℕ
rows_from = 64

abbrev pub row_words : ℕ
row_words = 10

abbrev pub circuit_words : ℕ
circuit_words = 10304

-- the words of a row: code, width, how many sources, three sources, number, table, and the node whose turn comes at this place of the order
abbrev pub at_code : ℕ
at_code = 0

abbrev pub at_width : ℕ
at_width = 1

abbrev pub at_count : ℕ
at_count = 2

abbrev pub at_sources : ℕ
at_sources = 3

abbrev pub at_number : ℕ
at_number = 6

abbrev pub at_table : ℕ
at_table = 7

abbrev pub at_turn : ℕ
at_turn = 8

-- word k of node v
abbrev pub field : List ℕ → ℕ → ℕ → ℕ
field l v k = get_or l (rows_from + row_words * v + k) 0

-- the node of a row
unfoldable pub row_node : Row → Node
row_node r = record { element = element_by r.code r.number r.table; width = r.width; sources = r.sources }

-- the row of node v
abbrev pub row_at : List ℕ → ℕ → Row
row_at l v = record {
  code = field l v at_code;
  width = field l v at_width;
  count = field l v at_count;
  sources = field l v 3 ∷ field l v 4 ∷ field l v 5 ∷ [];
  number = field l v at_number;
  table = field l v at_table;
}

-- the nodes, and where the tables stand in the file
unfoldable pub nodes_of : List ℕ → List Node
nodes_of l = map (λ v. row_node (row_at l v)) (below (get_or l 0 0))

unfoldable pub tables_of : List ℕ → List ℕ
tables_of l = map (λ t. get_or l (2 + t) 0) (below (get_or l 1 0))

-- an order of the nodes, beside them
unfoldable pub order_of : List ℕ → List ℕ
order_of l = map (λ i. field l i at_turn) (below (get_or l 0 0))

-- THE NETLIST of a circuit whose tables stand in the file s
unfoldable pub net_of : List ℕ → List ℕ → Net
net_of s l = record { tables = map (table_in s) (tables_of l); nodes = nodes_of l }

-- the words of a row are a node's: a code, as many sources as its element has, and bytes where the file has bytes
pub record Fits (r : Row) : Type 0 where
  pub coded : Coded r.code
  pub width : r.width < 256
  pub count : r.count ≡ operands (element_by r.code r.number r.table)
  pub table : r.table < 256
  pub lowest : r.code ≡ 18 → r.number < 256

-- l has the form of a circuit
pub record Formed (l : List ℕ) : Type 0 where
  pub room : circuit_words ≤ length l
  pub few : length (nodes_of l) ≤ 1024
  pub few_tables : length (tables_of l) ≤ 16
  pub row : (v : ℕ) → v < length (nodes_of l) → Fits (row_at l v)

-- and its tables are tables of the file s
pub record Circuit (s l : List ℕ) : Type 0 where
  pub formed : Formed l
  pub few : size (net_of s l) ≤ 1024
  pub short : length s ≤ 46000
  pub tables : (t : ℕ) → t < length (tables_of l) → TableAt s (get_or (tables_of l) t 0)
