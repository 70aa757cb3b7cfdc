-- Laws of what specs/FieldOffsets.antt defines. Assumes nothing.
use Rattle.std.specs.Prelude.{◌≡◌, List, [], ◌∷◌, ◌++◌, ℕ, ◌+◌, ◌-◌, ◌≤◌, ◌<◌, length, get_or, drop}
use Rattle.std.proofs.Common.{ap, ◌∙◌, ⊎_elim, arith}
use Rattle.lists.proofs.BelowLaws.{lt_or_le}
use Rattle.netlist.specs.Net.{Net, no_table, size, node_at}
use Rattle.netlist.specs.Field.{field_end, field}
use Rattle.netlist.specs.NodeField.{node_content}
use Rattle.netlist.specs.TableField.{body_tag, table_content}
use Rattle.netlist.specs.File.{encode}
use Rattle.netlist.specs.Offsets.{fields_of, field_at, offset_of}
use Rattle.netlist.proofs.Offsets.{fields_count, head_field, table-field, node_field, end-field, offset-first, offset_next, offset_last, field_there}
use Rattle.codec.proofs.FieldAt.{length_here}
use Rattle.codec.specs.FieldOffsets.{Running}

-- a field's tag and content
abbrev IsField : List ℕ → Type 0
IsField b = (tag : ℕ) × (c : List ℕ) × (b ≡ field tag c)

module _ (N : Net) where
  is_field : (k : ℕ) → k < length (fields_of N) → IsField (field_at N k)
  is_field k h = ⊎_elim head (λ l. ⊎_elim (table l) (λ m. ⊎_elim (node l m) (end l m) (lt_or_le (k - 1 - length N.tables) (size N))) (lt_or_le (k - 1) (length N.tables))) (lt_or_le k 1)
    where
      at : {j : ℕ} → k ≡ j → field_at N k ≡ field_at N j
      at e = ap (field_at N) e

      head : k < 1 → IsField (field_at N k)
      head l = (1, 1 ∷ [], at (omega arith) ∙ head_field N)

      table : 1 ≤ k → k - 1 < length N.tables → IsField (field_at N k)
      table l m = let t = get_or N.tables (k - 1) no_table in (body_tag t.body, table_content t, at (omega arith) ∙ table-field N (k - 1) m)

      node : 1 ≤ k → length N.tables ≤ k - 1 → k - 1 - length N.tables < size N → IsField (field_at N k)
      node i l m = let x = node_at N (k - 1 - length N.tables) in (3, node_content x, at (omega (arith)) ∙ node_field N (k - 1 - length N.tables) m)

      end : 1 ≤ k → length N.tables ≤ k - 1 → size N ≤ k - 1 - length N.tables → IsField (field_at N k)
      end i l m = (4, [], at (omega (arith, fields_count N)) ∙ end-field N)

  pub running : Running N (encode N)
  running = record { first = offset-first N; there = field_there N; next = next; last = offset_last N }
    where
      next : (k : ℕ) → k < length (fields_of N) → offset_of N (k + 1) ≡ field_end (encode N) (offset_of N k)
      next k h =
          let f = is_field k h in
          let here : drop (offset_of N k) (encode N) ≡ field f.0 f.1 ++ drop (offset_of N (k + 1)) (encode N) = field_there N k h ∙ ap (λ (l : List ℕ). l ++ drop (offset_of N (k + 1)) (encode N)) f.2 in
          omega (arith, offset_next N k h, ap length f.2, length_here (encode N) (offset_of N k) f.0 f.1 (drop (offset_of N (k + 1)) (encode N)) here)
