-- A written file is short enough for check 1, and longer than it has fields. Assumes nothing.
use Rattle.std.specs.Prelude.{◌≡◌, List, [], ◌∷◌, ℕ, ◌+◌, ◌*◌, ◌^◌, ◌≤◌, ◌<◌, length}
use Rattle.std.proofs.Common.{zero-le, suc-mul, arith, pow_mono}
use Rattle.std.proofs.Math.ListN.{length-append}
use Rattle.lists.specs.Lists.{concat_map}
use Rattle.lists.proofs.ListsLaws.{All}
use Rattle.netlist.specs.declared.Node.{Node}
use Rattle.netlist.specs.Net.{Table, Net, size}
use Rattle.netlist.specs.Checks.{TableFits}
use Rattle.netlist.specs.TableField.{body_words, table_content}
use Rattle.netlist.specs.NodeField.{node_content}
use Rattle.netlist.specs.File.{table_bytes, node_bytes, encode}
use Rattle.codec.specs.Within.{NodeFits, Within}
use Rattle.codec.proofs.Within.{words_few, tables_within, nodes_within}
use Rattle.codec.proofs.WordsLaws.{length-words}
use Rattle.codec.proofs.ContentLength.{content_short, length-content}

-- ---- parts one after the other, each within bounds

module _ {A : Type 0} (f : A → List ℕ) where
  concat_most : (P : A → Type 0) (most : ℕ) → ((x : A) → P x → length (f x) ≤ most) → (xs : List A) → All P xs → length (concat_map f xs) ≤ length xs * most
  concat_most P most short [] h = zero-le
  concat_most P most short (x ∷ xs) h =
      simp (length-append, suc-mul) (omega (arith, short x h.0, concat_most P most short xs h.1))

  concat_least : ((x : A) → 1 ≤ length (f x)) → (xs : List A) → length xs ≤ length (concat_map f xs)
  concat_least some [] = zero-le
  concat_least some (x ∷ xs) = simp length-append (omega (arith, some x, concat_least some xs))

-- ---- the fields

pub length-table : (t : Table) → TableFits t → length (table_content t) ≤ 2052
unfolding table_content
length-table t f =
    let powers : 2 ^ t.bits ≤ 2 ^ 10 = pow_mono f.bits_high in
    omega (arith, length-words (body_words t.body), words_few t f)

pub length_node : (x : Node) → NodeFits x → length (node_content x) ≤ 9
length_node x f = omega (arith, length-content x f.recorded.three, content_short x.element)

module _ (N : Net) where
  length_parts : length (encode N) ≡ 7 + length (concat_map table_bytes N.tables) + length (concat_map node_bytes N.nodes)
  unfolding encode
  length_parts = simp length-append (omega arith)

  -- THE LAW: document 01's limits and T-02's allow files of 45,175 bytes
  pub length-encode : Within N → length (encode N) ≤ 45175
  length-encode w =
      omega (
        arith,
        w.few_tables,
        length_parts,
        concat_most table_bytes TableFits 2055 (λ t f. omega (arith, length-table t f)) N.tables (tables_within N w),
        concat_most node_bytes NodeFits 12 (λ x f. omega (arith, length_node x f)) N.nodes (nodes_within N w),
      )

  pub fields_fewer : length N.tables + size N < length (encode N)
  fields_fewer =
      omega
      (arith, length_parts, concat_least table_bytes (λ t. omega arith) N.tables, concat_least node_bytes (λ x. omega arith) N.nodes)
