-- Reading a written file gives the netlist back. Assumes nothing.
use Rattle.std.specs.Prelude.{◌≡◌, refl, drop}
use Rattle.std.proofs.Math.Path.{ap, ap₂, sym}
use Rattle.std.proofs.Common.{◌∙◌, not-suc-le-zero, arith}
use mathlib.Core.List.{List, [], ◌∷◌, ◌++◌, map, append_assoc, append-nil}
use Prim.Native.Nat.{ℕ, zero, suc, ◌+◌, ◌≤◌, ◌<◌}
use Rattle.std.proofs.Math.ListN.{length, length-append}
use Rattle.lists.specs.Lists.{concat_map}
use Rattle.lists.proofs.ListsLaws.{All}
use Rattle.lists.specs.Paths.{pick}
use Rattle.lists.proofs.Paths.{off_lt}
use Rattle.netlist.specs.declared.Node.{Node}
use Rattle.netlist.specs.Net.{Table, Net}
use Rattle.netlist.specs.Checks.{TableFits}
use Rattle.netlist.specs.Field.{field_end, field}
use Rattle.netlist.specs.TableField.{table_read, body_tag, table_content}
use Rattle.netlist.specs.NodeField.{node_read, node_content, NodeRead}
use Rattle.netlist.specs.Scan.{TableField, NodeField, EndField, walk, after_head, scan}
use Rattle.netlist.proofs.ScanLaws.{walk_step}
use Rattle.netlist.specs.File.{table_in, node_in, net_in, Decoded, good, decoded, decode, table_bytes, node_bytes, encode}
use Rattle.codec.specs.Within.{NodeFits, Within}
use Rattle.codec.proofs.Within.{tables_within, nodes_within}
use Rattle.codec.proofs.NodeBack.{node_back}
use Rattle.codec.proofs.TableBack.{table_good_lem, table-back}
use Rattle.codec.proofs.FieldAt.{tag_here, content_here, next_here, table_here, node_here, end_here}
use Rattle.codec.proofs.EncodeLength.{length-encode, fields_fewer}

-- ---- the field at an offset, with `rest` behind it, is read as what was written

module _ (s : List ℕ) (at : ℕ) (rest : List ℕ) where
  table_is : (x : Table) → drop at s ≡ table_bytes x ++ rest → TableFits x → table_in s at ≡ x
  unfolding table_in
  table_is x here fit =
      let tag = body_tag x.body in
      ap₂ table_read (tag_here s at tag (table_content x) rest here) (content_here s at tag (table_content x) rest here) ∙ table-back x fit

  node_is : (x : Node) → drop at s ≡ node_bytes x ++ rest → NodeFits x → node_in s at ≡ x
  unfolding node_in
  node_is x here fit = ap (λ (c : List ℕ). (node_read c).node) (content_here s at 3 (node_content x) rest here) ∙ ap (λ (y : NodeRead). y.node) (node_back x fit)

map_more : {A : Type 0} (g : ℕ → A) (l : List ℕ) (at : ℕ) (x : A) (rest : List A) → g at ≡ x → map g (l ++ (at ∷ [])) ++ rest ≡ map g l ++ (x ∷ rest)
map_more g [] at x rest e = ap (λ (y : _). y ∷ rest) e
map_more g (y ∷ l) at x rest e = ap (λ (m : List _). g y ∷ m) (map_more g l at x rest e)

-- ---- the walk, which its fuel k outlasts: what it has found, and what is still to come

module _ (s : List ℕ) where
  abbrev Whole : List ℕ → List ℕ → List Table → List Node → Decoded
  Whole ts ns xs ys = good (record { tables = map (table_in s) ts ++ xs; nodes = map (node_in s) ns ++ ys })

  nodes-walk : (ys : List Node) (k at : ℕ) (ts ns : List ℕ) → All NodeFits ys → length ns + length ys ≤ 1024 → length ys < k → drop at s ≡ concat_map node_bytes ys ++ field 4 []
      → decoded s (walk k s at ts ns) ≡ Whole ts ns [] ys
  unfolding net_in
  nodes-walk ys zero at ts ns fit few fuel here = absurd (not-suc-le-zero fuel)
  nodes-walk [] (suc k) at ts ns fit few fuel here =
      ap (decoded s) (walk_step k s at ts ns EndField (end_here s at here (length ts) (length ns)))
      ∙ sym (λ i. good (record { tables = append-nil (map (table_in s) ts) i; nodes = append-nil (map (node_in s) ns) i }))
  nodes-walk (y ∷ ys) (suc k) at ts ns fit few fuel here =
      let split = here ∙ append_assoc (node_bytes y) (concat_map node_bytes ys) (field 4 []) in
      ap (decoded s) (walk_step k s at ts ns (NodeField (field_end s at)) (node_here s at (node_content y) _ split (length ts) (length ns) (omega arith) (ap (λ (z : NodeRead). z.good) (node_back y fit.0))))
      ∙ nodes-walk ys k (field_end s at) ts (ns ++ (at ∷ [])) fit.1 (omega (arith, length-append ns (at ∷ []))) (omega arith) (next_here s at 3 (node_content y) _ split)
      ∙ ap (λ (l : List Node). good (record { tables = map (table_in s) ts ++ []; nodes = l })) (map_more (node_in s) ns at y ys (node_is s at _ y split fit.0))

  tables-walk : (xs : List Table) (ys : List Node) (k at : ℕ) (ts : List ℕ) → All TableFits xs → All NodeFits ys → length ts + length xs ≤ 16 → length ys ≤ 1024 → length xs + length ys < k
      → drop at s ≡ concat_map table_bytes xs ++ (concat_map node_bytes ys ++ field 4 []) → decoded s (walk k s at ts []) ≡ Whole ts [] xs ys
  tables-walk xs ys zero at ts fit fit' few few' fuel here = absurd (not-suc-le-zero fuel)
  tables-walk [] ys (suc k) at ts fit fit' few few' fuel here = nodes-walk ys (suc k) at ts [] fit' (omega arith) (omega arith) here
  tables-walk (x ∷ xs) ys (suc k) at ts fit fit' few few' fuel here =
      let split = here ∙ append_assoc (table_bytes x) (concat_map table_bytes xs) (concat_map node_bytes ys ++ field 4 []) in
      ap (decoded s) (walk_step k s at ts [] (TableField (field_end s at)) (table_here s at (table_content x) _ x.body split (length ts) (omega arith) (table_good_lem x fit.0)))
      ∙ tables-walk xs ys k (field_end s at) (ts ++ (at ∷ [])) fit.1 fit' (omega (arith, length-append ts (at ∷ []))) few' (omega arith) (next_here s at (body_tag x.body) (table_content x) _ split)
      ∙ ap (λ (l : List Table). good (record { tables = l; nodes = ys })) (map_more (table_in s) ts at x xs (table_is s at _ x split fit.0))

-- ---- the file

module _ (N : Net) where
  -- the head is there, and the walk goes on after it
  scan-encode : Within N → scan (encode N) ≡ walk (length (encode N)) (encode N) 4 [] []
  unfolding scan after_head pick encode
  scan-encode w =
      let short = length-encode N w in
      sym (off_lt _ _ 46000 (length (encode N)) (omega arith) (off_lt _ _ (length (encode N)) 3 (omega arith) (off_lt _ _ (length (encode N)) 4 (omega arith) refl)))

  -- THE THEOREM
  pub decode-encode : Within N → decode (encode N) ≡ good N
  unfolding decode encode
  decode-encode w =
      let few : 0 + length N.tables ≤ 16 = omega (arith, w.few_tables) in
      let here = append_assoc (concat_map table_bytes N.tables) (concat_map node_bytes N.nodes) (field 4 []) in
      ap (decoded (encode N)) (scan-encode w)
      ∙ tables-walk (encode N) N.tables N.nodes (length (encode N)) 4 [] (tables_within N w) (nodes_within N w) few w.fields.bounds.nodes (fields_fewer N) here
