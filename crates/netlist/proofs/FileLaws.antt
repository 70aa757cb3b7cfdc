-- The nodes and tables of an indexed file, by number. Assumes nothing.
use Rattle.std.specs.Prelude.{◌≡◌, List, ℕ, ◌≤◌, ◌<◌, length, get_or}
use Rattle.std.proofs.Math.ListN.{length-map, get_or-eq_default}
use Rattle.lists.proofs.BelowLaws.{get_or_map-lt}
use Rattle.netlist.specs.Net.{nowhere, no_table, size, node_at}
use Rattle.netlist.specs.File.{table_in, node_in, net_in}

module _ (s ts ns : List ℕ) where
  pub size_in : size (net_in s ts ns) ≡ length ns
  unfolding net_in
  size_in = length-map ns (node_in s)

  pub tables_in : length (net_in s ts ns).tables ≡ length ts
  unfolding net_in
  tables_in = length-map ts (table_in s)

  pub node_in_lem : (v : ℕ) → v < length ns → node_at (net_in s ts ns) v ≡ node_in s (get_or ns v 0)
  unfolding net_in node_at
  node_in_lem v h = get_or_map-lt (node_in s) ns v 0 nowhere h

  pub node_out : (v : ℕ) → length ns ≤ v → node_at (net_in s ts ns) v ≡ nowhere
  unfolding net_in node_at
  node_out v h = get_or-eq_default (net_in s ts ns).nodes nowhere (rw size_in h)

  pub table_in_lem : (k : ℕ) → k < length ts → get_or (net_in s ts ns).tables k no_table ≡ table_in s (get_or ts k 0)
  unfolding net_in
  table_in_lem k h = get_or_map-lt (table_in s) ts k 0 no_table h

  pub table_out : (k : ℕ) → length ts ≤ k → get_or (net_in s ts ns).tables k no_table ≡ no_table
  unfolding net_in
  table_out k h = get_or-eq_default (net_in s ts ns).tables no_table (rw tables_in h)
