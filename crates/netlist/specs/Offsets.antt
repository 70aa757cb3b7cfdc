-- The fields of a netlist's file, and the offset of each: document 02, T-04. Assumes nothing.
use Rattle.std.specs.Prelude.{ℕ, take}
use mathlib.Core.List.{List, [], ◌∷◌, ◌++◌, map}
use Rattle.std.proofs.Math.ListN.{length, get_or}
use Rattle.lists.specs.Lists.{total}
use Rattle.netlist.specs.Net.{Net}
use Rattle.netlist.specs.Field.{field}
use Rattle.netlist.specs.File.{table_bytes, node_bytes}

-- its fields, each with tag, length and content: the head, the tables, the nodes, the end
unfoldable pub fields_of : Net → List (List ℕ)
fields_of N = (field 1 (1 ∷ []) ∷ []) ++ (map table_bytes N.tables ++ (map node_bytes N.nodes ++ (field 4 [] ∷ [])))

abbrev pub field_at : Net → ℕ → List ℕ
field_at N k = get_or (fields_of N) k []

-- the offset before field k: "the sum of the whole lengths of the fields before"
unfoldable pub offset_of : Net → ℕ → ℕ
offset_of N k = total (map length (take k (fields_of N)))
