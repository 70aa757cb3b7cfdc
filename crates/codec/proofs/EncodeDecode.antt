-- A file of bytes that is read is the file of its netlist: no netlist has two files. Assumes nothing.
use Rattle.std.specs.Prelude.{◌≡◌, refl, ℕ, ◌≤◌, length, get_or, drop}
use Rattle.std.proofs.Math.Path.{ap, sym}
use Rattle.std.proofs.Common.{subst, ◌∙◌, arith, drop-cons}
use mathlib.Core.List.{List, [], ◌∷◌, ◌++◌, map, append_assoc}
use Rattle.lists.specs.Lists.{concat_map}
use Rattle.lists.proofs.Paths.{arms, arms_lt, arms_eq}
use Rattle.netlist.specs.Net.{Net}
use Rattle.netlist.specs.Field.{tag_at, length_at, field_end, field}
use Rattle.netlist.specs.Scan.{Scan, refused, found, walk, after_head, scan}
use Rattle.netlist.specs.ScanLaws.{Ends, nothing, fields, Last}
use Rattle.netlist.proofs.ScanLaws.{walk_keeps}
use Rattle.netlist.specs.File.{table_in, node_in, net_in, Decoded, bad, good, decoded, decode, table_bytes, node_bytes, encode}
use Rattle.codec.specs.Bytes.{Bytes}
use Rattle.codec.proofs.FieldCame.{field_is}
use Rattle.codec.proofs.WalkCame.{Fields, fields_kept, last_came}

module _ (s : List ℕ) (b : Bytes s) where
  data File : Scan → Type 0 where
    refused-file : {k p : ℕ} → File (refused k p)
    file : {ts ns : List ℕ} → encode (net_in s ts ns) ≡ s → File (found ts ns)

  after_head_lem : s ≡ field 1 (1 ∷ []) ++ drop 4 s → (w : Scan) → Ends (Last s (Fields s b) (fields_kept s b)) w → File w
  unfolding encode net_in
  after_head_lem e (refused k p) nothing = refused-file
  after_head_lem e (found ts ns) (fields (at, f, z)) =
      file
      (ap (λ (l : List ℕ). field 1 (1 ∷ []) ++ l)
      (append_assoc (concat_map table_bytes (map (table_in s) ts)) (concat_map node_bytes (map (node_in s) ns)) (field 4 [])
      ∙ ap (λ (l : List ℕ). concat_map table_bytes (map (table_in s) ts) ++ (concat_map node_bytes (map (node_in s) ns) ++ l)) (sym (last_came s b at (length ts) (length ns) z)) ∙ sym f)
      ∙ sym e)

  head_came : field_end s 0 ≤ length s → tag_at s 0 ≡ 1 → length_at s 0 ≡ 1 → get_or s 3 0 ≡ 1 → s ≡ field 1 (1 ∷ []) ++ drop 4 s
  head_came inside tag size value =
      let next : field_end s 0 ≡ 4 = omega arith in
      field_is s b 0 inside 1 (1 ∷ []) tag (rw (size, drop-cons s 3 0 (omega arith), value)) ∙ ap (λ (k : ℕ). field 1 (1 ∷ []) ++ drop k s) next

  scan_came : File (scan s)
  unfolding scan after_head
  scan_came =
      arms File _ _ _ (λ _. refused-file) (λ _.
      arms File _ _ _ (λ _. refused-file) (λ _.
      arms_lt File _ _ (length s) (field_end s 0) (λ _. refused-file) (λ inside.
      arms_eq File _ _ (tag_at s 0) 1 (λ tag. arms_eq File _ _ (length_at s 0) 1 (λ size. arms_eq File _ _ (get_or s 3 0) 1
      (λ value. after_head_lem (head_came inside tag size value) (walk (length s) s 4 [] []) (walk_keeps s (Fields s b) (fields_kept s b) (length s) 4 [] [] refl))
      (λ _. refused-file)) (λ _. refused-file)) (λ _. refused-file))))

abbrev Comes : List ℕ → Decoded → Type 0
Comes s (bad k p) = Unit {0}
Comes s (good N) = encode N ≡ s

-- THE THEOREM
pub encode-decode : (s : List ℕ) (N : Net) → Bytes s → decode s ≡ good N → encode N ≡ s
unfolding decode
encode-decode s N b e = subst (Comes s) e (told (scan s) (scan_came s b))
  where
    told : (w : Scan) → File s b w → Comes s (decoded s w)
    told (refused k p) refused-file = tt
    told (found ts ns) (file f) = f
