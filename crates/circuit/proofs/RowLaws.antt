-- A node's record and its row. Assumes nothing.
use Rattle.std.specs.Prelude.{◌≡◌, List, [], ◌∷◌, ℕ, ◌-◌, ◌≤◌, ◌<◌}
use Rattle.std.proofs.Math.Path.{sym, ap}
use Rattle.std.proofs.Common.{subst, ◌∙◌, ⊎_elim, arith}
use Rattle.std.proofs.Math.ListN.{length}
use Rattle.lists.specs.Paths.{pick}
use Rattle.lists.proofs.Paths.{off_eq}
use Rattle.words.specs.declared.Op.{Op}
use Rattle.words.specs.declared.Op.TheVariants.{Part}
use Rattle.netlist.specs.declared.Element.{Element}
use Rattle.netlist.specs.declared.Element.TheVariants.{Gate}
use Rattle.netlist.specs.declared.Node.{Node}
use Rattle.netlist.specs.Net.{node_at, element_at, width_at, source, size, operands}
use Rattle.netlist.specs.NodeField.{plain_op}
use Rattle.circuit.specs.Code.{Coded, code_of, op_by, element_by, number_or, table_or}
use Rattle.circuit.proofs.CodeLaws.{coded, element_named}
use Rattle.circuit.specs.Circuit.{field, at_code, at_number, at_table, row_node, net_of, Fits, Circuit}
use Rattle.circuit.proofs.CircuitLaws.{row_of, node_of, element_at_lem, code_at}
use Rattle.circuit.proofs.Building.{three_are}

-- ---- the row of a node

-- where an element has no number or no table, any stands in its row
module _ (x : Node) (a b : ℕ) {c w n k t : ℕ} {l : List ℕ} (width : w ≡ x.width) (sources : l ≡ x.sources)
    (code : c ≡ code_of x.element) (count : n ≡ operands x.element) (number : k ≡ number_or a x.element) (table : t ≡ table_or b x.element) where
  element_is : element_by c k t ≡ x.element
  element_is = (λ i. element_by (code i) (number i) (table i)) ∙ element_named a b x.element

  pub row_fits : w < 256 → t < 256 → (code_of x.element ≡ 18 → k < 256) → Fits (record { code = c; width = w; count = n; sources = l; number = k; table = t })
  row_fits i j d = record {
    coded = subst Coded (sym code) (coded x.element);
    width = i;
    count = count ∙ ap operands (sym element_is);
    table = j;
    lowest = λ q. d (sym code ∙ q);
  }

  pub row_node_lem : row_node (record { code = c; width = w; count = n; sources = l; number = k; table = t }) ≡ x
  unfolding row_node
  row_node_lem = λ i. record { element = element_is i; width = width i; sources = sources i }

-- ---- the element of a code, a number and a table

pub plain_by : (k x : ℕ) (o : Op) → (k ≡ 0 → ⊥) → (k ≡ 10 → ⊥) → o ≡ plain_op k → o ≡ op_by k x
unfolding op_by
plain_by k x o a b e = off_eq _ _ k 0 a (off_eq _ _ k 10 b e)

pub gate_by : (c x t : ℕ) (o : Op) → 5 ≤ c → o ≡ op_by (c - 8) x → Gate o ≡ element_by c x t
unfolding element_by
gate_by c x t o h e =
    off_eq _ _ c 0 (λ q. omega arith) (off_eq _ _ c 1 (λ q. omega arith) (off_eq _ _ c 2 (λ q. omega arith) (off_eq _ _ c 3 (λ q. omega arith) (off_eq _ _ c 4 (λ q. omega arith) (ap Gate e)))))

-- past the kinds there are gates only
pub gate_code : {c : ℕ} → Coded c → 5 ≤ c → (8 ≤ c) × (c < 20)
gate_code h l = ⊎_elim (λ a. absurd (omega arith)) (λ b. b) h

-- ---- the node of a row

module _ (s l : List ℕ) (t : Circuit s l) (v : ℕ) (h : v < size (net_of s l)) {c x : ℕ} (code : c ≡ code_of (element_at (net_of s l) v)) (number : x ≡ number_or x (element_at (net_of s l) v)) where
  pub read_coded : Coded c
  read_coded = subst Coded (sym code) (coded (element_at (net_of s l) v))

  -- a part's lowest bit is a byte
  pub part_small : c ≡ 18 → x < 256
  unfolding element_by pick op_by
  part_small q =
      let k : field l v at_code ≡ 18 = code_at s l t v h ∙ sym code ∙ q in
      let e : element_at (net_of s l) v ≡ Gate (Part (field l v at_number)) = element_at_lem s l t v h ∙ ap (λ (c : ℕ). element_by c (field l v at_number) (field l v at_table)) k in
      omega (arith, number ∙ ap (number_or x) e, (row_of s l t v h).lowest k)

  pub element_read_lem : {m : ℕ} {e : Element} → m ≡ table_or m (element_at (net_of s l) v) → e ≡ element_by c x m → e ≡ element_at (net_of s l) v
  element_read_lem {m} table q = q ∙ (λ i. element_by (code i) (number i) (table i)) ∙ element_named x m (element_at (net_of s l) v)

module _ (s l : List ℕ) (t : Circuit s l) (v : ℕ) (h : v < size (net_of s l)) where
  pub node_read_lem : {w a b d : ℕ} {e : Element} → e ≡ element_at (net_of s l) v → w ≡ width_at (net_of s l) v
      → a ≡ source (net_of s l) v 0 → b ≡ source (net_of s l) v 1 → d ≡ source (net_of s l) v 2 → record { element = e; width = w; sources = a ∷ b ∷ d ∷ [] } ≡ node_at (net_of s l) v
  unfolding element_at width_at source row_node
  node_read_lem e w a b d =
      let three = three_are (node_at (net_of s l) v).sources (ap (λ (y : Node). length y.sources) (node_of s l v h)) in
      λ i. record { element = e i; width = w i; sources = ((λ j. a j ∷ b j ∷ d j ∷ []) ∙ sym three) i }
