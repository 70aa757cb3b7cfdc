-- Laws of what specs/Offsets.antt defines. Assumes nothing.
use Rattle.std.specs.Prelude.{◌≡◌, ℕ, suc, ◌+◌, ◌≤◌, ◌<◌, take, drop}
use Rattle.std.proofs.Math.Path.{refl, sym, ap, ap₂}
use Rattle.std.proofs.Common.{◌∙◌, arith, take-append-drop, take_all, drop-cons}
use mathlib.Core.List.{List, [], ◌∷◌, ◌++◌, map, append_assoc}
use Rattle.std.proofs.Math.ListN.{length, get_or, length-append, length-map, get_or-append}
use Rattle.std.proofs.Math.Seq.{drop-append_seam, get_or-append-add, get_or-append_seam}
use Rattle.lists.specs.Lists.{concat_map}
use Rattle.lists.proofs.BelowLaws.{get_or_map-lt}
use Rattle.lists.proofs.ListsLaws.{concat_map-append, concat_map_next, concat_map-map}
use Rattle.lists.proofs.TotalLaws.{length-concat_map}
use Rattle.netlist.specs.Net.{Net, no_table, nowhere, size, node_at}
use Rattle.netlist.specs.Field.{field}
use Rattle.netlist.specs.File.{table_bytes, node_bytes, encode}
use Rattle.netlist.specs.Offsets.{fields_of, field_at, offset_of}

-- ---- which field is which

module _ (N : Net) where
  abbrev tables : List (List ℕ)
  tables = map table_bytes N.tables

  abbrev nodes : List (List ℕ)
  nodes = map node_bytes N.nodes

  pub fields_count : length (fields_of N) ≡ 2 + length N.tables + size N
  unfolding fields_of
  fields_count =
      omega (arith, length-append tables (nodes ++ (field 4 [] ∷ [])), length-append nodes (field 4 [] ∷ []), length-map N.tables table_bytes, length-map N.nodes node_bytes)

  pub head_field : field_at N 0 ≡ field 1 (1 ∷ [])
  unfolding fields_of
  head_field = refl

  pub table-field : (k : ℕ) → k < length N.tables → field_at N (1 + k) ≡ table_bytes (get_or N.tables k no_table)
  unfolding fields_of
  table-field k h =
      get_or-append-add (field 1 (1 ∷ []) ∷ []) (tables ++ (nodes ++ (field 4 [] ∷ []))) k []
      ∙ get_or-append tables (nodes ++ (field 4 [] ∷ [])) [] k (omega (arith, length-map N.tables table_bytes)) ∙ get_or_map-lt table_bytes N.tables k no_table [] h

  -- behind the head and the tables
  later : (i : ℕ) → field_at N (1 + length N.tables + i) ≡ get_or (nodes ++ (field 4 [] ∷ [])) i []
  unfolding fields_of
  later i =
      ap (λ (j : ℕ). get_or (fields_of N) j []) (let e : 1 + length N.tables + i ≡ 1 + (length tables + i) = omega (arith, length-map N.tables table_bytes) in e)
      ∙ get_or-append-add (field 1 (1 ∷ []) ∷ []) (tables ++ (nodes ++ (field 4 [] ∷ []))) (length tables + i) [] ∙ get_or-append-add tables (nodes ++ (field 4 [] ∷ [])) i []

  pub node_field : (v : ℕ) → v < size N → field_at N (1 + length N.tables + v) ≡ node_bytes (node_at N v)
  unfolding node_at
  node_field v h = later v ∙ get_or-append nodes (field 4 [] ∷ []) [] v (omega (arith, length-map N.nodes node_bytes)) ∙ get_or_map-lt node_bytes N.nodes v nowhere [] h

  pub end-field : field_at N (1 + length N.tables + size N) ≡ field 4 []
  end-field = later (size N) ∙ ap (λ (i : ℕ). get_or (nodes ++ (field 4 [] ∷ [])) i []) (sym (length-map N.nodes node_bytes)) ∙ get_or-append_seam nodes (field 4 []) [] []

  -- ---- one after the other they are the file
  pub fields_file : concat_map (λ b. b) (fields_of N) ≡ encode N
  unfolding fields_of encode
  fields_file =
      ap (λ (l : List ℕ). field 1 (1 ∷ []) ++ l)
      (concat_map-append (λ b. b) tables (nodes ++ (field 4 [] ∷ [])) ∙ ap₂ ◌++◌ (concat_map-map table_bytes N.tables) (concat_map-append (λ b. b) nodes (field 4 [] ∷ []) ∙ ap (λ (l : List ℕ). l ++ field 4 []) (concat_map-map node_bytes N.nodes)))
      ∙ simp append_assoc

  -- ---- the offset, from field to field
  pub offset-length : (k : ℕ) → offset_of N k ≡ length (concat_map (λ b. b) (take k (fields_of N)))
  unfolding offset_of
  offset-length k = sym (length-concat_map (λ b. b) (take k (fields_of N)))

  pub offset-first : offset_of N 0 ≡ 0
  unfolding offset_of
  offset-first = refl

  pub offset_next : (k : ℕ) → k < length (fields_of N) → offset_of N (k + 1) ≡ offset_of N k + length (field_at N k)
  offset_next k h =
      offset-length (k + 1) ∙ ap length (concat_map_next (λ b. b) (fields_of N) k [] h) ∙ length-append (concat_map (λ b. b) (take k (fields_of N))) (field_at N k)
      ∙ ap (λ (n : ℕ). n + length (field_at N k)) (sym (offset-length k))

  pub offset_last : offset_of N (length (fields_of N)) ≡ length (encode N)
  offset_last = offset-length (length (fields_of N)) ∙ ap (λ (l : List (List ℕ)). length (concat_map (λ b. b) l)) (take_all (length (fields_of N)) (fields_of N) (omega arith)) ∙ ap length fields_file

  -- the file is the first fields, and those behind them
  in_two : (k : ℕ) → encode N ≡ concat_map (λ b. b) (take k (fields_of N)) ++ concat_map (λ b. b) (drop k (fields_of N))
  in_two k = sym fields_file ∙ ap (concat_map (λ b. b)) (sym (take-append-drop k (fields_of N))) ∙ concat_map-append (λ b. b) (take k (fields_of N)) (drop k (fields_of N))

  pub offset_within : (k : ℕ) → offset_of N k ≤ length (encode N)
  offset_within k = omega (arith, offset-length k, ap length (in_two k), length-append (concat_map (λ b. b) (take k (fields_of N))) (concat_map (λ b. b) (drop k (fields_of N))))

  -- from an offset on it is the fields from there on
  behind : (k : ℕ) → drop (offset_of N k) (encode N) ≡ concat_map (λ b. b) (drop k (fields_of N))
  behind k = ap₂ drop (offset-length k) (in_two k) ∙ drop-append_seam (concat_map (λ b. b) (take k (fields_of N))) (concat_map (λ b. b) (drop k (fields_of N)))

  pub field_there : (k : ℕ) → k < length (fields_of N) → drop (offset_of N k) (encode N) ≡ field_at N k ++ drop (offset_of N (k + 1)) (encode N)
  field_there k h =
      behind k ∙ ap (concat_map (λ b. b)) (drop-cons (fields_of N) k [] h)
      ∙ ap (λ (j : ℕ). field_at N k ++ concat_map (λ b. b) (drop j (fields_of N))) (let e : suc k ≡ k + 1 = omega arith in e) ∙ ap (λ (l : List ℕ). field_at N k ++ l) (sym (behind (k + 1)))
