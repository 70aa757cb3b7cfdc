-- What the words of a circuit tell of its netlist. Assumes nothing.
use Rattle.std.specs.Prelude.{◌≡◌, List, length, eqb}
use Rattle.std.proofs.Math.Path.{refl, sym, ap, subst}
use Rattle.std.proofs.Common.{◌∙◌, add-one}
use Prim.Native.Nat.{ℕ, zero, suc, ◌+◌, ◌≤◌, ◌<◌}
use native.Mathlib.Omega.{arith}
use Rattle.std.proofs.Math.ListN.{get_or, length-map, get_or-eq_default}
use Rattle.lists.specs.Lists.{one, count_below}
use Rattle.lists.proofs.BelowLaws.{length_listed, get_or_listed, get_or_map-lt}
use Rattle.netlist.specs.declared.Element.{Element}
use Rattle.netlist.specs.declared.Node.{Node}
use Rattle.netlist.specs.Field.{tag_at, length_at, content}
use Rattle.netlist.proofs.FieldLaws.{content-length, byte_in}
use Rattle.netlist.specs.TableField.{table_read}
use Rattle.netlist.proofs.TableLaws.{table_facts}
use Rattle.netlist.specs.ScanLaws.{TableAt}
use Rattle.netlist.specs.File.{table_in}
use Rattle.netlist.specs.Net.{Table, Net, nowhere, no_table, size, node_at, element_at, width_at, source, operands, is_input, is_output, is_register, is_async, is_clocked, count_of}
use Rattle.circuit.specs.Code.{code_of, element_by, number_or, table_or}
use Rattle.circuit.proofs.CodeLaws.{code_by, number_by, table_by, code_input, code_output, code_register, code_async, code_clocked}
use Rattle.circuit.specs.Circuit.{field, at_code, at_width, at_count, at_number, at_table, at_turn, row_node, row_at, nodes_of, tables_of, order_of, net_of, Fits, Circuit}

-- ---- node v

pub size-nodes : (l : List ℕ) → length (nodes_of l) ≡ get_or l 0 0
unfolding nodes_of
size-nodes l = length_listed (λ v. row_node (row_at l v)) (get_or l 0 0)

pub size-tables : (l : List ℕ) → length (tables_of l) ≡ get_or l 1 0
unfolding tables_of
size-tables l = length_listed (λ t. get_or l (2 + t) 0) (get_or l 1 0)

pub table_place : (l : List ℕ) (t : ℕ) → t < length (tables_of l) → get_or (tables_of l) t 0 ≡ get_or l (2 + t) 0
unfolding tables_of
table_place l t h = get_or_listed (λ t. get_or l (2 + t) 0) (get_or l 1 0) t 0 (omega (arith, size-tables l))

pub size_order : (l : List ℕ) → length (order_of l) ≡ get_or l 0 0
unfolding order_of
size_order l = length_listed (λ i. field l i at_turn) (get_or l 0 0)

pub order_at : (l : List ℕ) (i : ℕ) → i < get_or l 0 0 → get_or (order_of l) i 0 ≡ field l i at_turn
unfolding order_of
order_at l i h = get_or_listed (λ k. field l k at_turn) (get_or l 0 0) i 0 h

pub node_from : (l : List ℕ) (v : ℕ) → v < length (nodes_of l) → get_or (nodes_of l) v nowhere ≡ row_node (row_at l v)
unfolding nodes_of
node_from l v h = get_or_listed (λ v. row_node (row_at l v)) (get_or l 0 0) v nowhere (omega (arith, size-nodes l))

module _ (s l : List ℕ) where
  pub size_is : size (net_of s l) ≡ length (nodes_of l)
  unfolding net_of
  size_is = refl

  pub size_of : size (net_of s l) ≡ get_or l 0 0
  unfolding net_of
  size_of = size-nodes l

  pub node_of : (v : ℕ) → v < size (net_of s l) → node_at (net_of s l) v ≡ row_node (row_at l v)
  unfolding net_of node_at
  node_of v h = node_from l v h

  pub tables_of_lem : length (net_of s l).tables ≡ length (tables_of l)
  unfolding net_of
  tables_of_lem = length-map (tables_of l) (table_in s)

  pub table_of : (t : ℕ) → t < length (tables_of l) → get_or (net_of s l).tables t no_table ≡ table_in s (get_or l (2 + t) 0)
  unfolding net_of
  table_of t h = get_or_map-lt (table_in s) (tables_of l) t 0 no_table h ∙ ap (table_in s) (table_place l t h)

  pub table_stands_lem : Circuit s l → (t : ℕ) → t < length (tables_of l) → TableAt s (get_or l (2 + t) 0)
  table_stands_lem c t h = subst (TableAt s) (table_place l t h) (c.tables t h)

  module _ (t : Circuit s l) (v : ℕ) (h : v < size (net_of s l)) where
    pub row_of : Fits (row_at l v)
    row_of = t.formed.row v (omega (arith, size_is))

    pub element_at_lem : element_at (net_of s l) v ≡ element_by (field l v at_code) (field l v at_number) (field l v at_table)
    unfolding element_at row_node
    element_at_lem = ap (λ (x : Node). x.element) (node_of v h)

    pub code_at : field l v at_code ≡ code_of (element_at (net_of s l) v)
    code_at = sym (ap code_of element_at_lem ∙ code_by (field l v at_code) (field l v at_number) (field l v at_table) row_of.coded)

    pub number_at : field l v at_number ≡ number_or (field l v at_number) (element_at (net_of s l) v)
    number_at = number_by (field l v at_code) (field l v at_number) (field l v at_table) row_of.coded ∙ ap (number_or (field l v at_number)) (sym element_at_lem)

    pub table_at : field l v at_table ≡ table_or (field l v at_table) (element_at (net_of s l) v)
    table_at = table_by (field l v at_code) (field l v at_number) (field l v at_table) row_of.coded ∙ ap (table_or (field l v at_table)) (sym element_at_lem)

    pub width_at_lem : field l v at_width ≡ width_at (net_of s l) v
    unfolding width_at row_node
    width_at_lem = sym (ap (λ (x : Node). x.width) (node_of v h))

    pub count_at : field l v at_count ≡ operands (element_at (net_of s l) v)
    count_at = row_of.count ∙ ap operands (sym element_at_lem)

    pub source_at : (p : ℕ) → p < 3 → field l v (3 + p) ≡ source (net_of s l) v p
    unfolding source row_node
    source_at zero q = sym (ap (λ (x : Node). get_or x.sources 0 0) (node_of v h))
    source_at (suc zero) q = sym (ap (λ (x : Node). get_or x.sources 1 0) (node_of v h))
    source_at (suc (suc zero)) q = sym (ap (λ (x : Node). get_or x.sources 2 0) (node_of v h))
    source_at (suc (suc (suc p))) q = absurd (omega arith)

-- ---- what a code tells of its element

module _ (e : Element) {c : ℕ} (q : c ≡ code_of e) where
  pub input_is : {b : ℕ} → b ≡ one (eqb c 0) → b ≡ one (is_input e)
  input_is r = r ∙ ap (λ (k : ℕ). one (eqb k 0)) q ∙ ap one (code_input e)

  pub output_is : {b : ℕ} → b ≡ one (eqb c 1) → b ≡ one (is_output e)
  output_is r = r ∙ ap (λ (k : ℕ). one (eqb k 1)) q ∙ ap one (code_output e)

  pub register_is : {b : ℕ} → b ≡ one (eqb c 2) → b ≡ one (is_register e)
  register_is r = r ∙ ap (λ (k : ℕ). one (eqb k 2)) q ∙ ap one (code_register e)

  pub async_is : {b : ℕ} → b ≡ one (eqb c 3) → b ≡ one (is_async e)
  async_is r = r ∙ ap (λ (k : ℕ). one (eqb k 3)) q ∙ ap one (code_async e)

  pub clocked_is : {b : ℕ} → b ≡ one (eqb c 4) → b ≡ one (is_clocked e)
  clocked_is r = r ∙ ap (λ (k : ℕ). one (eqb k 4)) q ∙ ap one (code_clocked e)

-- the nodes of a kind, one more looked at
pub kind_counted : (N : Net) (kind v : ℕ) {c bit k : ℕ} → c ≡ code_of (element_at N v) → bit ≡ one (eqb c kind) → k ≡ count_below (λ u. eqb (code_of (element_at N u)) kind) v
    → k + bit ≡ count_below (λ u. eqb (code_of (element_at N u)) kind) (v + 1)
kind_counted N kind v q b e =
    let f : one (eqb _ kind) ≡ one (eqb (code_of (element_at N v)) kind) = ap (λ (x : ℕ). one (eqb x kind)) q in
    omega (arith, ap (count_below (λ u. eqb (code_of (element_at N u)) kind)) (add-one v))

-- and the kinds by their classes
pub registers_counted : (N : Net) → count_of (λ e. eqb (code_of e) 2) N ≡ count_of is_register N
registers_counted N = λ i. count_of (λ e. code_register e i) N

pub async_counted : (N : Net) → count_of (λ e. eqb (code_of e) 3) N ≡ count_of is_async N
async_counted N = λ i. count_of (λ e. code_async e i) N

pub clocked_counted : (N : Net) → count_of (λ e. eqb (code_of e) 4) N ≡ count_of is_clocked N
clocked_counted N = λ i. count_of (λ e. code_clocked e i) N

-- ---- a table's address bits and width

pub record TableHead (s l : List ℕ) (k : ℕ) : Type 0 where
  pub few : k < 16
  pub inside : get_or l (2 + k) 0 + 5 ≤ length s
  pub bits : get_or s (get_or l (2 + k) 0 + 3) 0 ≡ (get_or (net_of s l).tables k no_table).bits
  pub wide : get_or s (get_or l (2 + k) 0 + 4) 0 ≡ (get_or (net_of s l).tables k no_table).wide

module _ (s l : List ℕ) (t : Circuit s l) (k : ℕ) where
  pub table_head : k < length (tables_of l) → TableHead s l k
  unfolding table_in table_read
  table_head h =
      let place : ℕ = get_or l (2 + k) 0 in
      let at : TableAt s place = subst (TableAt s) (table_place l k h) (t.tables k h) in
      let long : 2 ≤ length_at s place = omega (arith, content-length s place at.inside, (table_facts (tag_at s place) (content s place) at.good).long) in
      let same : get_or (net_of s l).tables k no_table ≡ table_in s place = table_of s l k h in
      let z : place + 3 + 0 ≡ place + 3 = omega arith in
      let u : place + 3 + 1 ≡ place + 4 = omega arith in
      record {
        few = omega (arith, t.formed.few_tables);
        inside = omega (arith, at.inside);
        bits = sym (ap (λ (x : Table). x.bits) same ∙ byte_in s place 0 (omega arith) ∙ ap (λ (j : ℕ). get_or s j 0) z);
        wide = sym (ap (λ (x : Table). x.wide) same ∙ byte_in s place 1 (omega arith) ∙ ap (λ (j : ℕ). get_or s j 0) u);
      }

  -- past the last there is none
  pub no_table_lem : length (tables_of l) ≤ k → get_or (net_of s l).tables k no_table ≡ no_table
  no_table_lem h = get_or-eq_default (net_of s l).tables no_table (omega (arith, tables_of_lem s l))
