-- A place of the order is written: the circuit shows the same netlist. Assumes nothing.
use Rattle.std.specs.Prelude.{◌≡◌, ℕ, ◌+◌, ◌*◌, ◌<◌, length, get_or, set, eqb}
use Rattle.std.proofs.Common.{sym, subst, ◌∙◌, ⊎_elim, arith, length-set, get_or-set_same, get_or-set_other, ext_get_or}
use Rattle.std.proofs.Math.Path.{ap}
use mathlib.Core.List.{List, map}
use Rattle.lists.proofs.BelowLaws.{true_or_false, eqb-true, eqb_differ}
use Rattle.netlist.specs.ScanLaws.{TableAt}
use Rattle.netlist.specs.File.{table_in}
use Rattle.netlist.specs.Net.{nowhere, size}
use Rattle.circuit.specs.Circuit.{rows_from, row_words, at_turn, field, row_node, row_at, nodes_of, tables_of, order_of, net_of, Fits, Formed, Circuit}
use Rattle.circuit.proofs.CircuitLaws.{size-nodes, size-tables, size_order, order_at}
use Rattle.circuit.proofs.Building.{listed_same, row_same}

module _ (l : List ℕ) (t : Formed l) (i x : ℕ) where
  abbrev m : List ℕ
  m = set l (rows_from + row_words * i + at_turn) x

  head_same : (j : ℕ) → j < 64 → get_or m j 0 ≡ get_or l j 0
  head_same j h = get_or-set_other l (rows_from + row_words * i + at_turn) j x 0 (λ q. omega arith)

  field_same : (v k : ℕ) → k < 8 → field m v k ≡ field l v k
  field_same v k h = get_or-set_other l (rows_from + row_words * i + at_turn) (rows_from + row_words * v + k) x 0 (λ q. omega arith)

  pub tables_same : tables_of (set l (rows_from + row_words * i + at_turn) x) ≡ tables_of l
  unfolding tables_of
  tables_same = listed_same 0 _ _ (head_same 1 (omega arith)) (λ j h. head_same (2 + j) (omega (arith, t.few_tables, size-tables l)))

  pub nodes_same : nodes_of (set l (rows_from + row_words * i + at_turn) x) ≡ nodes_of l
  unfolding nodes_of
  nodes_same = listed_same nowhere (λ v. row_node (row_at m v)) (λ v. row_node (row_at l v)) (head_same 0 (omega arith)) (λ j h. ap row_node (row_same l m j (field_same j)))

  pub formed_same : Formed (set l (rows_from + row_words * i + at_turn) x)
  formed_same = record {
    room = omega (arith, t.room, length-set l (rows_from + row_words * i + at_turn) x);
    few = omega (arith, t.few, ap length nodes_same);
    few_tables = omega (arith, t.few_tables, ap length tables_same);
    row = λ v h. subst Fits (sym (row_same l m v (field_same v))) (t.row v (omega (arith, ap length nodes_same)));
  }

  pub order_put : i < length (nodes_of l) → order_of (set l (rows_from + row_words * i + at_turn) x) ≡ set (order_of l) i x
  order_put h = ext_get_or 0 _ _ (size_order m ∙ head_same 0 (omega arith) ∙ sym (length-set (order_of l) i x ∙ size_order l)) (λ j b. let n : get_or m 0 0 ≡ get_or l 0 0 = head_same 0 (omega arith) in
      let k : j < get_or l 0 0 = omega (arith, size_order m) in order_at m j (omega arith) ∙ ⊎_elim (λ e. here j (eqb-true e)) (λ e. there j k (eqb_differ e)) (true_or_false (eqb j i)))
    where
      here : (j : ℕ) → j ≡ i → field m j at_turn ≡ get_or (set (order_of l) i x) j 0
      here j e = ap (λ (k : ℕ). field m k at_turn) e ∙ get_or-set_same l (rows_from + row_words * i + at_turn) x 0 (omega (arith, t.room, t.few)) ∙ sym (ap (λ (k : ℕ). get_or (set (order_of l) i x) k 0) e ∙ get_or-set_same (order_of l) i x 0 (omega (arith, size_order l, size-nodes l)))

      there : (j : ℕ) → j < get_or l 0 0 → (j ≡ i → ⊥) → field m j at_turn ≡ get_or (set (order_of l) i x) j 0
      there j k d = get_or-set_other l (rows_from + row_words * i + at_turn) (rows_from + row_words * j + at_turn) x 0 (λ q. d (omega arith)) ∙ sym (get_or-set_other (order_of l) i j x 0 d ∙ order_at l j k)

module _ (s l : List ℕ) (t : Circuit s l) (i x : ℕ) where
  pub net_same : net_of s (set l (rows_from + row_words * i + at_turn) x) ≡ net_of s l
  unfolding net_of
  net_same = λ j. record { tables = map (table_in s) (tables_same l t.formed i x j); nodes = nodes_same l t.formed i x j }

  pub circuit_same : Circuit s (set l (rows_from + row_words * i + at_turn) x)
  circuit_same = record {
    formed = formed_same l t.formed i x;
    few = omega (arith, t.few, ap size net_same);
    short = t.short;
    tables = subst (λ (y : List ℕ). (k : ℕ) → k < length y → TableAt s (get_or y k 0)) (sym (tables_same l t.formed i x)) t.tables;
  }
