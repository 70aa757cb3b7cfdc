-- What the words of a circuit show after a step. Assumes nothing.
use Rattle.std.specs.Prelude.{◌≡◌, Bool, List, map, ℕ, ◌<◌, ltb}
use Rattle.std.proofs.Math.Path.{ap}
use Rattle.std.proofs.Common.{sym, subst, ◌∙◌, arith}
use Rattle.std.proofs.Math.ListN.{length, get_or}
use Rattle.lists.specs.Lists.{select}
use Rattle.lists.proofs.BelowLaws.{get_or_map-lt}
use Rattle.lists.proofs.ListsLaws.{length-select}
use Rattle.lists.proofs.SelectLaws.{map-select, select_same, some_member, select_at}
use Rattle.netlist.specs.declared.Node.{Node}
use Rattle.netlist.specs.ScanLaws.{TableAt}
use Rattle.netlist.specs.File.{table_in}
use Rattle.netlist.specs.Net.{no_table, node_at}
use Rattle.circuit.specs.Circuit.{nodes_of, tables_of, net_of, Circuit}
use Rattle.circuit.specs.Building.{Pushed, Built}
use Rattle.circuit.specs.Renumbering.{Retabled, Kept}
use Rattle.circuit.specs.Shown.{with_node, with_table, with_marked}
use Rattle.circuit.proofs.CircuitLaws.{tables_of_lem}
use Rattle.circuit.proofs.Building.{built_net, built_circuit, rebuilt}

module _ (s l : List ℕ) (i : Circuit s l) {m : List ℕ} where
  -- a row put makes the netlist one node longer
  pub pushed_net : {x : Node} → Pushed l x m → (net_of s m ≡ with_node (net_of s l) x) × Circuit s m
  unfolding net_of
  pushed_net p = rebuilt s l i (record { formed = p.formed; tables = p.tables; nodes = p.nodes })

  -- a node has another table
  pub retabled_net : {v k : ℕ} → Retabled l v k m → (net_of s m ≡ with_table (net_of s l) v k) × Circuit s m
  unfolding net_of node_at
  retabled_net r = rebuilt s l i (record { formed = r.formed; tables = r.tables; nodes = r.nodes })

  -- the marked tables alone are left
  module _ {marks : List ℕ} (k : Kept marks l m) where
    abbrev q : ℕ → Bool
    q t = ltb 0 (get_or marks t 0)

    abbrev places : List ℕ
    places = select q (λ t. get_or (tables_of l) t 0) (length (tables_of l))

    tables_are : map (table_in s) places ≡ (with_marked (net_of s l) marks).tables
    unfolding net_of
    tables_are =
        map-select (table_in s) q (λ t. get_or (tables_of l) t 0) (length (tables_of l))
        ∙ select_same q (λ t. table_in s (get_or (tables_of l) t 0)) (λ t. get_or (net_of s l).tables t no_table) (length (tables_of l)) (λ t h e. sym (get_or_map-lt (table_in s) (tables_of l) t 0 no_table h))
        ∙ ap (select q (λ t. get_or (net_of s l).tables t no_table)) (sym (tables_of_lem s l))

    stands : (t : ℕ) → t < length places → TableAt s (get_or places t 0)
    stands t h =
        let w = some_member q (length (tables_of l)) t (omega (arith, length-select q (λ j. get_or (tables_of l) j 0) (length (tables_of l)))) in
        subst (TableAt s) (sym (select_at (λ j. get_or (tables_of l) j 0) 0 w.1)) (i.tables w.0 w.1.low)

    built : Built places (nodes_of l) m
    built = record { formed = k.formed; tables = k.tables; nodes = k.nodes }

    pub kept_net : (net_of s m ≡ with_marked (net_of s l) marks) × Circuit s m
    unfolding net_of
    kept_net = (built_net s built ∙ (λ j. record { tables = tables_are j; nodes = nodes_of l }), built_circuit s built i.short stands)
