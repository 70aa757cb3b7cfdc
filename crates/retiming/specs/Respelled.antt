-- Netlists whose tables answer alike are rewritten alike, but for the tables. Assumes nothing.
use Rattle.std.specs.Prelude.{List, [], ◌∷◌, ◌++◌, ℕ}
use Rattle.lists.specs.Lists.{concat_map}
use Rattle.netlist.specs.Net.{Table, Net}
use Rattle.netlist.specs.Field.{field}
use Rattle.netlist.specs.File.{table_bytes, node_bytes}

-- ---- the tables of a file

-- a file with these table fields: head, tables, and what follows them; of a netlist's file nodes and end
abbrev pub with_tables : List Table → List ℕ → List ℕ
with_tables ts rest = field 1 (1 ∷ []) ++ (concat_map table_bytes ts ++ rest)

abbrev pub behind_tables : Net → List ℕ
behind_tables N = concat_map node_bytes N.nodes ++ field 4 []
