-- The table of a node is written: the rest of the circuit stays. Assumes nothing.
use Rattle.std.specs.Prelude.{◌≡◌, List, [], ◌∷◌, ℕ, ◌+◌, ◌*◌, ◌<◌, length, get_or, set}
use Rattle.std.proofs.Common.{sym, ap, subst, ◌∙◌, arith, length-set, get_or-set_other, ext_get_or}
use Rattle.std.proofs.Math.Decide.{ℕ_discrete}
use Rattle.std.proofs.Math.Seq.{get_or-set_same}
use Rattle.netlist.specs.declared.Node.{Node}
use Rattle.netlist.specs.Net.{nowhere}
use Rattle.netlist.specs.Trim.{node_over}
use Rattle.circuit.specs.declared.Row.{Row}
use Rattle.circuit.proofs.CodeLaws.{over_by, operands_by}
use Rattle.circuit.specs.Circuit.{rows_from, row_words, at_table, field, row_node, row_at, nodes_of, tables_of, Fits, Formed}
use Rattle.circuit.proofs.CircuitLaws.{size-nodes, size-tables, node_from}
use Rattle.circuit.proofs.Building.{listed_same, row_same}
use Rattle.circuit.specs.Renumbering.{Retabled}

-- a row with another table, and its node
row_over : ℕ → Row → Row
row_over k r = record { code = r.code; width = r.width; count = r.count; sources = r.sources; number = r.number; table = k }

node_over_lem : (k : ℕ) (r : Row) → row_node (row_over k r) ≡ node_over k (row_node r)
unfolding row_node row_over
node_over_lem k r = λ i. record { element = over_by r.code r.number r.table k i; width = r.width; sources = r.sources }

fits_over : (k : ℕ) (r : Row) → k < 256 → Fits r → Fits (row_over k r)
unfolding row_over
fits_over k r h f = record {
  coded = f.coded;
  width = f.width;
  count = f.count ∙ sym (operands_by r.code r.number r.table k);
  table = h;
  lowest = f.lowest;
}

module _ (l : List ℕ) (v k : ℕ) (t : Formed l) (there : v < length (nodes_of l)) (small : k < 256) where
  abbrev at : ℕ
  at = rows_from + row_words * v + at_table

  abbrev m : List ℕ
  m = set l at k

  head_same : (j : ℕ) → j < 64 → get_or m j 0 ≡ get_or l j 0
  head_same j h = get_or-set_other l at j k 0 (λ q. omega arith)

  -- the other rows, and its own
  row_other : (u : ℕ) → (u ≡ v → ⊥) → row_at m u ≡ row_at l u
  row_other u d = row_same l m u (λ i h. get_or-set_other l at (rows_from + row_words * u + i) k 0 (λ q. d (omega arith)))

  field_same : (i : ℕ) → i < 7 → field m v i ≡ field l v i
  field_same i h = get_or-set_other l at (rows_from + row_words * v + i) k 0 (λ q. omega arith)

  row_here : row_at m v ≡ row_over k (row_at l v)
  unfolding row_over
  row_here = λ i. record {
    code = field_same 0 (omega arith) i;
    width = field_same 1 (omega arith) i;
    count = field_same 2 (omega arith) i;
    sources = field_same 3 (omega arith) i ∷ field_same 4 (omega arith) i ∷ field_same 5 (omega arith) i ∷ [];
    number = field_same 6 (omega arith) i;
    table = get_or-set_same l at k 0 (omega (arith, t.room, t.few)) i;
  }

  counted : length (nodes_of m) ≡ length (nodes_of l)
  counted = size-nodes m ∙ head_same 0 (omega arith) ∙ sym (size-nodes l)

  same_tables : tables_of m ≡ tables_of l
  unfolding tables_of
  same_tables = listed_same 0 _ _ (head_same 1 (omega arith)) (λ j h. head_same (2 + j) (omega (arith, t.few_tables, size-tables l)))

  abbrev over : Node
  over = node_over k (get_or (nodes_of l) v nowhere)

  node_at_lem : (u : ℕ) → u < length (nodes_of m) → get_or (nodes_of m) u nowhere ≡ get_or (set (nodes_of l) v over) u nowhere
  node_at_lem u h = node_from m u h ∙ elim (ℕ_discrete u v) [ yes e ↦ here e | no d ↦ other d ]
    where
      here : u ≡ v → row_node (row_at m u) ≡ get_or (set (nodes_of l) v over) u nowhere
      here e =
          ap (λ (i : ℕ). row_node (row_at m i)) e ∙ ap row_node row_here ∙ node_over_lem k (row_at l v) ∙ ap (node_over k) (sym (node_from l v there))
          ∙ sym (ap (λ (i : ℕ). get_or (set (nodes_of l) v over) i nowhere) e ∙ get_or-set_same (nodes_of l) v over nowhere there)

      other : (u ≡ v → ⊥) → row_node (row_at m u) ≡ get_or (set (nodes_of l) v over) u nowhere
      other d = ap row_node (row_other u d) ∙ sym (get_or-set_other (nodes_of l) v u over nowhere d ∙ node_from l u (omega (arith, counted)))

  -- THE LAW of a table written
  pub table-put : Retabled l v k (set l (rows_from + row_words * v + at_table) k)
  table-put = record {
    formed = record {
      room = omega (arith, t.room, length-set l at k);
      few = omega (arith, t.few, counted);
      few_tables = omega (arith, t.few_tables, ap length same_tables);
      row = λ u h. elim (ℕ_discrete u v) [
        | yes e ↦ subst (λ (i : ℕ). Fits (row_at m i)) (sym e) (subst Fits (sym row_here) (fits_over k (row_at l v) small (t.row v there)))
        | no d ↦ subst Fits (sym (row_other u d)) (t.row u (omega (arith, counted)))
      ];
    };
    tables = same_tables;
    nodes = ext_get_or nowhere _ _ (counted ∙ sym (length-set (nodes_of l) v over)) node_at_lem;
  }
