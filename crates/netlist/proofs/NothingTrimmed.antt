-- Where every table is read, nothing is left out: it is the same netlist. Assumes nothing.
use Rattle.std.specs.Prelude.{◌≡◌, true, map, ℕ, ◌<◌, length, get_or}
use Rattle.std.proofs.Common.{sym, ◌∙◌, add-zero, arith}
use Rattle.std.proofs.Math.Path.{ap}
use Rattle.std.proofs.Math.ListN.{length-map}
use Rattle.std.proofs.Math.Seq.{ext_get_or}
use Rattle.lists.specs.Lists.{select}
use Rattle.lists.proofs.BelowLaws.{any_below_intro, get_or_map-lt, length_listed, get_or_listed}
use Rattle.lists.proofs.SearchLaws.{count_all}
use Rattle.lists.proofs.SelectLaws.{select-first}
use Rattle.netlist.specs.declared.Element.{Element}
use Rattle.netlist.specs.Net.{Table, no_table, table_of, Net, size, node_at, nowhere, element_at}
use Rattle.netlist.specs.Verdict.{reads_table, table_in_use}
use Rattle.netlist.specs.Checks.{HasTables, TablesRead}
use Rattle.netlist.specs.Trim.{table_number, renumbered, trimmed}
use Rattle.netlist.proofs.Trimmed.{over_same, over_own}
use Rattle.netlist.proofs.Memories.{own-table}

module _ (N : Net) (has : HasTables N) (read : TablesRead N) where
  abbrev n : ℕ
  n = length N.tables

  abbrev table : ℕ → Table
  table m = get_or N.tables m no_table

  used : (m : ℕ) → m < n → table_in_use N m ≡ true
  unfolding table_in_use
  used m l = let (v, h, r) = read m l in any_below_intro (size N) (λ x. reads_table (element_at N x) m) v h r

  same_number : (m : ℕ) → m < n → table_number N m ≡ m
  unfolding table_number
  same_number m l = count_all (table_in_use N) m (λ k h. used k (omega arith))

  same_nodes : map (renumbered (table_number N)) N.nodes ≡ N.nodes
  unfolding renumbered element_at node_at
  same_nodes = ext_get_or nowhere _ _ (length-map N.nodes (renumbered (table_number N)))
      (λ i h.
      let l : i < size N = omega (arith, length-map N.nodes (renumbered (table_number N))) in
      let e = element_at N i in
      get_or_map-lt (renumbered (table_number N)) N.nodes i nowhere nowhere l
      ∙ ap (λ (x : Element). record { element = x; width = (get_or N.nodes i nowhere).width; sources = (get_or N.nodes i nowhere).sources })
      (over_same _ (table_of e) e (λ m. same_number (table_of e) (own-table N.tables e (has i l) m)) ∙ over_own e))

  same_tables : select (table_in_use N) table n ≡ N.tables
  same_tables =
      ap (select (table_in_use N) table) (sym (add-zero n))
      ∙ select-first (table_in_use N) table n 0 used (λ v l h. absurd (omega arith))
      ∙ ext_get_or no_table _ _ (length_listed table n) (λ i h. get_or_listed table n i no_table (omega (arith, length_listed table n)))

  -- THE THEOREM
  pub trimmed_same : trimmed N ≡ N
  unfolding trimmed
  trimmed_same = λ i. record { tables = same_tables i; nodes = same_nodes i }
