-- The file of a netlist, field after field: the offset that is carried along, and what stands in the output. Assumes nothing.
use Rattle.std.specs.Prelude.{◌≡◌, refl, List, [], ◌∷◌, ◌++◌, ℕ, ◌+◌, ◌≤◌, ◌<◌, length, get_or, take, drop}
use Rattle.std.proofs.Common.{sym, ap, ◌∙◌, zero-le, arith, take_all}
use Rattle.std.proofs.Math.ListN.{length-append}
use Rattle.lists.specs.Lists.{concat_map}
use Rattle.lists.proofs.ListsLaws.{concat_map_next}
use Rattle.netlist.specs.declared.Node.{Node}
use Rattle.netlist.specs.Net.{Net, nowhere, node_at}
use Rattle.netlist.specs.Field.{field}
use Rattle.netlist.specs.File.{table_bytes, node_bytes, encode}
use Rattle.netlist.specs.Offsets.{fields_of, field_at, offset_of}
use Rattle.netlist.proofs.Offsets.{fields_file, offset-length, offset_next, offset_within}
use Rattle.writer.specs.Written.{Puts, puts_none, puts_as, puts_more, written_front}

module _ (N : Net) where
  abbrev tables : List ℕ
  tables = concat_map table_bytes N.tables

  abbrev nodes : List ℕ
  nodes = concat_map node_bytes N.nodes

  pub encode-length : length (encode N) ≡ 7 + length (concat_map table_bytes N.tables) + length (concat_map node_bytes N.nodes)
  unfolding encode
  encode-length = omega (arith, length-append (field 1 (1 ∷ []) ++ tables ++ nodes) (field 4 []), length-append (field 1 (1 ∷ []) ++ tables) nodes, length-append (field 1 (1 ∷ [])) tables)

  -- field k has room at its offset where the file has, and behind it is the next offset
  module _ {k at : ℕ} (low : k < length (fields_of N)) (here : at ≡ offset_of N k) {b : List ℕ} (is : field_at N k ≡ b) where
    pub field_fits : {n : ℕ} → length (encode N) ≤ n → at + length b ≤ n
    field_fits h = omega (arith, here, ap length is, offset_next N k low, offset_within N (k + 1))

    pub field_put : {o o' : List ℕ} {next : ℕ} → Puts o at b next o' → Puts o at (field_at N k) next o' × (next ≡ offset_of N (k + 1))
    field_put p = (puts_as (sym is) p, omega (arith, p.offset, here, offset_next N k low, ap length is))

  -- the first k fields stand at the front of the output, and the offset behind them is carried
  pub record Carrying (o₀ : List ℕ) (k at : ℕ) (o : List ℕ) : Type 0 where
    pub kept : length o ≡ length o₀
    pub puts : Puts o₀ 0 (concat_map (λ b. b) (take k (fields_of N))) at o

  pub carrying_none : {o : List ℕ} → Carrying o 0 0 o
  carrying_none = record { kept = refl; puts = puts_none refl zero-le }

  module _ {o₀ o : List ℕ} {k at : ℕ} (t : Carrying o₀ k at o) where
    pub carried : at ≡ offset_of N k
    carried = omega (arith, t.puts.offset, offset-length N k)

    pub carrying_more : k < length (fields_of N) → {next : ℕ} {o' : List ℕ} → length o' ≡ length o → Puts o at (field_at N k) next o' → Carrying o₀ (k + 1) next o'
    carrying_more h e p = record { kept = e ∙ t.kept; puts = puts_as (sym (concat_map_next (λ b. b) (fields_of N) k [] h)) (puts_more zero-le t.puts p) }

    pub file-written : length (fields_of N) ≤ k → (at ≡ length (encode N)) × (o ≡ encode N ++ drop (length (encode N)) o₀)
    file-written h =
        let all : Puts o₀ 0 (encode N) at o = puts_as (ap (concat_map (λ b. b)) (take_all k (fields_of N) h) ∙ fields_file N) t.puts in
        (omega (arith, all.offset), all.holds ∙ written_front o₀ (encode N))

-- node v of the list
pub listed_node : (N : Net) (v : ℕ) {x : Node} → x ≡ node_at N v → x ≡ get_or N.nodes v nowhere
unfolding node_at
listed_node N v e = e
