-- THE THEOREM: a netlist whose nodes read their tables at the new numbers, and that keeps the marked tables alone, is the netlist without its unread tables. Assumes nothing.
use Rattle.std.specs.Prelude.{◌≡◌, refl, Bool, true, false, List, map, ℕ, ◌≤◌, ◌<◌, length, get_or, ltb}
use Rattle.std.proofs.Common.{sym, ap, ◌∙◌, arith}
use Rattle.std.proofs.Math.ListN.{length-map}
use Rattle.std.proofs.Math.Seq.{ext_get_or}
use Rattle.lists.specs.Lists.{only, select, one}
use Rattle.lists.proofs.BelowLaws.{get_or_map-lt}
use Rattle.lists.proofs.ListsLaws.{concat_map-cong}
use Rattle.lists.proofs.SearchLaws.{count_same}
use Rattle.netlist.specs.declared.Node.{Node}
use Rattle.netlist.specs.Net.{Table, Net, nowhere, no_table, table_of, node_at, element_at}
use Rattle.netlist.specs.Verdict.{table_in_use}
use Rattle.netlist.specs.Checks.{HasTable, HasTables}
use Rattle.netlist.specs.Trim.{table_number, renumbered, trimmed}
use Rattle.netlist.proofs.Trimmed.{over_same}
use Rattle.netlist.proofs.Memories.{own-table}
use Rattle.circuit.specs.Circuit.{nodes_of, tables_of, net_of, Circuit}
use Rattle.circuit.specs.Building.{Built}
use Rattle.circuit.specs.Renumbering.{Kept}
use Rattle.circuit.specs.Shown.{with_marked}
use Rattle.circuit.proofs.Building.{rebuilt}
use Rattle.circuit.proofs.CircuitLaws.{tables_of_lem}
use Rattle.circuit.proofs.Shows.{kept_net}
use Rattle.rules.specs.TableMarks.{TableMarks}
use Rattle.trimming.specs.Numbers.{marked, Numbered}
use Rattle.trimming.specs.Renumbering.{all_renumbered}

-- only the number of a table that is there counts
node_same : (ts : List Table) (g h : ℕ → ℕ) (n : Node) → HasTable ts n.element → ((k : ℕ) → k < length ts → g k ≡ h k) → renumbered g n ≡ renumbered h n
unfolding renumbered
node_same ts g h n t q = λ i. record {
  element = over_same _ _ n.element (λ m. q (table_of n.element) (own-table ts n.element t m)) i;
  width = n.width;
  sources = n.sources;
}

bit_marked : (b : Bool) → ltb 0 (one b) ≡ b
bit_marked true = refl
bit_marked false = refl

module _ (N : Net) (there : HasTables N) (few : length N.tables ≤ 16)
    {marks numbers : List ℕ} (t : TableMarks N marks) (n : Numbered marks numbers 16) where
  abbrev g : ℕ → ℕ
  g k = get_or numbers k 0

  in_use : (k : ℕ) → k < length N.tables → marked marks k ≡ table_in_use N k
  in_use k h = ap (ltb 0) (t.each k h) ∙ bit_marked (table_in_use N k)

  number_is : (k : ℕ) → k < length N.tables → g k ≡ table_number N k
  unfolding table_number
  number_is k h = n.each k (omega (arith, few)) ∙ count_same (marked marks) (table_in_use N) k (λ v d. in_use v (omega arith))

  nodes_are : map (renumbered g) N.nodes ≡ (trimmed N).nodes
  unfolding trimmed element_at node_at
  nodes_are =
      ext_get_or nowhere _ _ (length-map N.nodes (renumbered g) ∙ sym (length-map N.nodes (renumbered (table_number N))))
      (λ v h. let d : v < length N.nodes = omega (arith, length-map N.nodes (renumbered g)) in
      get_or_map-lt (renumbered g) N.nodes v nowhere nowhere d
      ∙ node_same N.tables g (table_number N) (get_or N.nodes v nowhere) (there v d) number_is
      ∙ sym (get_or_map-lt (renumbered (table_number N)) N.nodes v nowhere nowhere d))

  tables_are : select (marked marks) (λ k. get_or N.tables k no_table) (length N.tables) ≡ (trimmed N).tables
  unfolding trimmed
  tables_are =
      concat_map-cong (λ k. only (marked marks k) (get_or N.tables k no_table)) (λ k. only (table_in_use N k) (get_or N.tables k no_table)) 0 (length N.tables)
      (λ k h. ap (λ (b : Bool). only b (get_or N.tables k no_table)) (in_use k (omega arith)))

  pub trimmed_as : with_marked (all_renumbered g N) marks ≡ trimmed N
  unfolding trimmed
  trimmed_as = λ j. record { tables = tables_are j; nodes = nodes_are j }

-- and so of the words of a circuit
module _ (s l : List ℕ) (i : Circuit s l) (there : HasTables (net_of s l))
    {marks numbers : List ℕ} (t : TableMarks (net_of s l) marks) (n : Numbered marks numbers 16) where
  module _ {m end : List ℕ} (b : Built (tables_of l) (map (renumbered (λ k. get_or numbers k 0)) (nodes_of l)) m) (k : Kept marks m end) where
    pub trimmed_is : (net_of s end ≡ trimmed (net_of s l)) × Circuit s end
    unfolding net_of
    trimmed_is =
        let r = rebuilt s l i b in
        let e = kept_net s m r.1 k in
        (e.0 ∙ ap (λ (N : Net). with_marked N marks) r.0 ∙ trimmed_as (net_of s l) there (omega (arith, i.formed.few_tables, tables_of_lem s l)) t n, e.1)
