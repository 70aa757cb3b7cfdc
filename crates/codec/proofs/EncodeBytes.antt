-- A written file is a list of bytes. Assumes nothing.
use Rattle.std.specs.Prelude.{◌≡◌, refl, List, [], ◌∷◌, ◌++◌, ℕ, zero, suc, ◌<◌, ◌≤◌, ◌^◌, length, get_or}
use Rattle.std.proofs.Common.{arith, lit<, pow_mono}
use Rattle.lists.specs.Lists.{concat_map}
use Rattle.words.specs.Words.{bytes}
use Rattle.words.specs.declared.Op.{Op}
use Rattle.words.specs.declared.Op.TheVariants.{Constant, Not, And, Or, Xor, Add, Subtract, Equal, Less, Choose, Part, Join}
use Rattle.netlist.specs.declared.Element.{Element}
use Rattle.netlist.specs.declared.Element.TheVariants.{Input, Output, Register, Async, Clocked, Gate}
use Rattle.netlist.specs.declared.Node.{Node}
use Rattle.netlist.specs.Net.{Body, Words, WithFill, Table, Net, table_of, operands}
use Rattle.netlist.specs.Checks.{OpFits, Fits, TableFits}
use Rattle.netlist.specs.Field.{field}
use Rattle.netlist.specs.TableField.{body_tag, body_words, table_content}
use Rattle.netlist.specs.NodeField.{kind_of, op_number, before_sources, op_extra, after_sources, source_bytes, node_content}
use Rattle.netlist.specs.File.{table_bytes, node_bytes, encode}
use Rattle.codec.specs.Bytes.{Bytes}
use Rattle.codec.proofs.Bytes.{bytes_none, bytes-more, bytes-append, bytes-concat, bytes_word}
use Rattle.codec.specs.Within.{Recorded, NodeFits, Within}
use Rattle.codec.proofs.Within.{all_at, words_each, tables_within, nodes_within}
use Rattle.codec.proofs.EncodeLength.{length-table, length_node}

field-bytes : (tag : ℕ) (c : List ℕ) → tag < 256 → length c < 65536 → Bytes c → Bytes (field tag c)
field-bytes tag c t n b = bytes-append (tag ∷ bytes (length c)) c (bytes-more tag (bytes (length c)) t (bytes_word (length c) n)) b

-- ---- the bytes of words

-- a word that fits a width is two bytes
bytes_fit : (v w : ℕ) → w ≤ 16 → v < 2 ^ w → Bytes (bytes v)
bytes_fit v w h f = let powers : 2 ^ w ≤ 2 ^ 16 = pow_mono h in bytes_word v (omega arith)

alone : (x : ℕ) → x < 256 → Bytes (x ∷ [])
alone x h = bytes-more x [] h bytes_none

-- ---- the content of a node

module _ (w : ℕ) (high : w ≤ 16) where
  op_bytes : (o : Op) → OpFits o w → ((b : ℕ) → Gate o ≡ Gate (Part b) → b < 256) → Bytes (op_number o ∷ op_extra o)
  op_bytes (Constant v) f g = bytes-more 0 (bytes v) (lit< tt) (bytes_fit v w high f)
  op_bytes Not f g = alone 1 (lit< tt)
  op_bytes And f g = alone 2 (lit< tt)
  op_bytes Or f g = alone 3 (lit< tt)
  op_bytes Xor f g = alone 4 (lit< tt)
  op_bytes Add f g = alone 5 (lit< tt)
  op_bytes Subtract f g = alone 6 (lit< tt)
  op_bytes Equal f g = alone 7 (lit< tt)
  op_bytes Less f g = alone 8 (lit< tt)
  op_bytes Choose f g = alone 9 (lit< tt)
  op_bytes (Part b) f g = bytes-more 10 (b ∷ []) (lit< tt) (alone b (g b refl))
  op_bytes Join f g = alone 11 (lit< tt)

  start : (k : ℕ) (l : List ℕ) → k < 256 → Bytes l → Bytes (k ∷ w ∷ l)
  start k l h b = bytes-more k (w ∷ l) h (bytes-more w l (omega arith) b)

  -- what stands before the sources, and after them
  around_bytes : (e : Element) → Fits e w → table_of e < 256 → ((b : ℕ) → e ≡ Gate (Part b) → b < 256)
      → Bytes (kind_of e ∷ w ∷ before_sources e) × Bytes (after_sources e)
  around_bytes Input f t g = (start 0 [] (lit< tt) bytes_none, bytes_none)
  around_bytes Output f t g = (start 1 [] (lit< tt) bytes_none, bytes_none)
  around_bytes (Register r) f t g = (start 2 [] (lit< tt) bytes_none, bytes_fit r w high f)
  around_bytes (Async m) f t g = (start 3 [] (lit< tt) bytes_none, alone m.table t)
  around_bytes (Clocked m r) f t g = (start 4 [] (lit< tt) bytes_none, bytes-more m.table (bytes r) t (bytes_fit r w high f))
  around_bytes (Gate o) f t g = let b = op_bytes o f g in (start 5 (op_number o ∷ []) (lit< tt) (alone (op_number o) (b 0)), λ i. b (suc i))

sources-bytes : (n : ℕ) (l : List ℕ) → ((p : ℕ) → get_or l p 0 < 65536) → Bytes (source_bytes n l)
sources-bytes zero l h = bytes_none
sources-bytes (suc n) [] h = bytes_none
sources-bytes (suc n) (x ∷ l) h = bytes-append (bytes x) (source_bytes n l) (bytes_word x (h 0)) (sources-bytes n l (λ p. h (suc p)))

pub node_bytes_lem : (x : Node) → NodeFits x → Bytes (node_content x)
unfolding node_content
node_bytes_lem x f =
    let r : Recorded x = f.recorded in
    let n : ℕ = operands x.element in
    let around = around_bytes x.width f.width_high x.element f.word_fits r.table r.lowest in
    bytes-append (kind_of x.element ∷ x.width ∷ before_sources x.element ++ source_bytes n x.sources) (after_sources x.element)
    (bytes-append (kind_of x.element ∷ x.width ∷ before_sources x.element) (source_bytes n x.sources) around.0 (sources-bytes n x.sources r.two_bytes))
    around.1

-- ---- the content of a table

pub table-bytes : (t : Table) → TableFits t → Bytes (table_content t)
unfolding table_content
table-bytes t f =
    let ws = body_words t.body in
    bytes-more t.bits (t.wide ∷ concat_map bytes ws) (omega (arith, f.bits_high))
    (bytes-more t.wide (concat_map bytes ws) (omega (arith, f.wide_high))
    (bytes-concat bytes (λ v. v < 2 ^ t.wide) (λ v h. bytes_fit v t.wide f.wide_high h) ws (all_at _ ws 0 (words_each t f))))

tag_small : (x : Body) → body_tag x < 256
tag_small (Words l) = lit< tt
tag_small (WithFill f l) = lit< tt

-- ---- the file

-- THE LAW
pub bytes-encode : (N : Net) → Within N → Bytes (encode N)
unfolding encode
bytes-encode N w =
    bytes-append (field 1 (1 ∷ []) ++ concat_map table_bytes N.tables ++ concat_map node_bytes N.nodes) (field 4 [])
    (bytes-append (field 1 (1 ∷ []) ++ concat_map table_bytes N.tables) (concat_map node_bytes N.nodes)
    (bytes-append (field 1 (1 ∷ [])) (concat_map table_bytes N.tables) (field-bytes 1 (1 ∷ []) (lit< tt) (lit< tt) (alone 1 (lit< tt)))
    (bytes-concat table_bytes TableFits table-field N.tables (tables_within N w)))
    (bytes-concat node_bytes NodeFits node_field N.nodes (nodes_within N w)))
    (field-bytes 4 [] (lit< tt) (lit< tt) bytes_none)
  where
    table-field : (t : Table) → TableFits t → Bytes (table_bytes t)
    table-field t f = field-bytes (body_tag t.body) (table_content t) (tag_small t.body) (omega (arith, length-table t f)) (table-bytes t f)

    node_field : (x : Node) → NodeFits x → Bytes (node_bytes x)
    node_field x f = field-bytes 3 (node_content x) (lit< tt) (omega (arith, length_node x f)) (node_bytes_lem x f)
