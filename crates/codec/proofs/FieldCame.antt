-- A field of a file of bytes, as it came. Assumes nothing.
use Rattle.std.specs.Prelude.{◌≡◌, List, ◌∷◌, ◌++◌, ℕ, ◌+◌, ◌≤◌, take, drop}
use Rattle.std.proofs.Math.Path.{ap}
use Rattle.std.proofs.Common.{ap₂, sym, ◌∙◌, add-one, arith, take-append-drop, drop-cons, drop-drop}
use Rattle.std.proofs.Math.ListN.{length}
use Rattle.std.proofs.Math.Seq.{take_at}
use Rattle.words.specs.Words.{bytes}
use Rattle.netlist.specs.Field.{tag_at, length_at, field_end, content, field}
use Rattle.netlist.specs.TableField.{body_tag, table_content}
use Rattle.netlist.proofs.FieldLaws.{content-length}
use Rattle.netlist.specs.ScanLaws.{TableAt}
use Rattle.netlist.specs.File.{table_in, table_bytes}
use Rattle.codec.specs.Bytes.{Bytes}
use Rattle.codec.proofs.Bytes.{bytes_take, bytes_drop}
use Rattle.codec.proofs.WordsLaws.{word_came}
use Rattle.codec.proofs.TableCame.{tag_as_it_came, table_as_it_came}

module _ (s : List ℕ) (b : Bytes s) (at : ℕ) where
  pub content-bytes : Bytes (content s at)
  content-bytes = bytes_take (length_at s at) (drop (at + 3) s) (bytes_drop (at + 3) s b)

  start_is : at + 3 ≤ length s → drop at s ≡ (tag_at s at ∷ bytes (length_at s at)) ++ drop (at + 3) s
  start_is h =
      let three : at + 1 + 2 ≡ at + 3 = omega arith in
      drop-cons s at 0 (omega arith)
      ∙ ap (λ (l : List ℕ). tag_at s at ∷ l) (ap (λ (k : ℕ). drop k s) (sym (add-one at)) ∙ sym (rw three at (word_came s b (at + 1) (omega arith))))

  rest_is : drop (at + 3) s ≡ content s at ++ drop (field_end s at) s
  rest_is =
      sym (take-append-drop (length_at s at) (drop (at + 3) s)) ∙ ap (λ (l : List ℕ). content s at ++ l) (drop-drop (length_at s at) (at + 3) s)

  -- from an offset on the file is a field, and what follows it
  field_then : field_end s at ≤ length s → drop at s ≡ field (tag_at s at) (content s at) ++ drop (field_end s at) s
  field_then inside =
      start_is (omega arith) ∙ ap₂ (λ (n : ℕ) (l : List ℕ). (tag_at s at ∷ bytes n) ++ l) (sym (content-length s at inside)) rest_is

  pub field_is : field_end s at ≤ length s → (tag : ℕ) (c : List ℕ) → tag_at s at ≡ tag → content s at ≡ c → drop at s ≡ field tag c ++ drop (field_end s at) s
  field_is inside tag c e d = field_then inside ∙ ap₂ (λ (k : ℕ) (l : List ℕ). field k l ++ drop (field_end s at) s) e d

  -- THE THEOREM, of a table field, whichever its tag
  pub table_then : TableAt s at → drop at s ≡ table_bytes (table_in s at) ++ drop (field_end s at) s
  unfolding table_in
  table_then t =
      field_is t.inside (body_tag (table_in s at).body) (table_content (table_in s at)) (sym (tag_as_it_came (tag_at s at) (content s at) t.good))
      (sym (table_as_it_came (tag_at s at) (content s at) content-bytes t.good))

  pub table-field_as_it_came : TableAt s at → take (3 + length_at s at) (drop at s) ≡ table_bytes (table_in s at)
  unfolding table_in
  table-field_as_it_came t =
      let same = table_as_it_came (tag_at s at) (content s at) content-bytes t.good in
      ap (take (3 + length_at s at)) (table_then t)
      ∙ take_at (table_bytes (table_in s at)) (drop (field_end s at) s) (3 + length_at s at) (omega (arith, content-length s at t.inside, ap length same))
