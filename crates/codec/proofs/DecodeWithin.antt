-- A netlist that is read from a file is within the format's limits. Assumes nothing.
use Rattle.std.specs.Prelude.{◌≡◌, refl, List, ℕ, ◌≤◌, ◌<◌}
use Rattle.std.proofs.Common.{subst, arith}
use Rattle.std.proofs.Math.ListN.{length, get_or}
use Rattle.netlist.specs.Net.{Net, no_table, size, node_at, element_at, width_at}
use Rattle.netlist.specs.Checks.{TableFits}
use Rattle.netlist.specs.Scan.{Scan, refused, found, scan}
use Rattle.netlist.specs.ScanLaws.{Found}
use Rattle.netlist.proofs.ScanLaws.{scan_found}
use Rattle.netlist.specs.File.{table_in, node_in, net_in, Decoded, bad, good, decoded, decode}
use Rattle.netlist.proofs.FileLaws.{size_in, tables_in, node_in_lem, table_in_lem}
use Rattle.netlist.specs.Field.{tag_at, content}
use Rattle.codec.specs.Bytes.{Bytes}
use Rattle.codec.specs.Within.{NodeFits, Within}
use Rattle.codec.proofs.TableCame.{table_fits}
use Rattle.codec.proofs.NodeCame.{node_fits}
use Rattle.codec.proofs.FieldCame.{content-bytes}

-- table by table and node by node
within : (N : Net) → length N.tables ≤ 16 → size N ≤ 1024 → ((m : ℕ) → m < length N.tables → TableFits (get_or N.tables m no_table))
    → ((v : ℕ) → v < size N → NodeFits (node_at N v)) → Within N
unfolding node_at element_at width_at
within N few few' ts ns =
    record {
      few_tables = few;
      fields = record {
        bounds = record { nodes = few' };
        tables_fit = ts;
        width_low = λ v h. (ns v h).width_low;
        width_high = λ v h. (ns v h).width_high;
        word_fits = λ v h. (ns v h).word_fits;
      };
      records = λ v h. (ns v h).recorded;
    }

module _ (s : List ℕ) (b : Bytes s) where
  net_within : (ts ns : List ℕ) → Found s ts ns → Within (net_in s ts ns)
  unfolding table_in node_in
  net_within ts ns f =
      within (net_in s ts ns) (omega (arith, f.few_tables, tables_in s ts ns)) (omega (arith, f.few_nodes, size_in s ts ns))
      (λ m h. let l : m < length ts = rw (tables_in s ts ns) at h in rw (table_in_lem s ts ns m l) (table_fits (tag_at s (get_or ts m 0)) (content s (get_or ts m 0)) (f.tables m l).good))
      (λ v h. let l : v < length ns = rw (size_in s ts ns) at h in
      let at = get_or ns v 0 in rw (node_in_lem s ts ns v l) (node_fits (content s at) (content-bytes s b at) (f.nodes v l).good))

abbrev Good : Decoded → Type 0
Good (bad k p) = Unit {0}
Good (good N) = Within N

-- THE THEOREM
pub decode_within : (s : List ℕ) (N : Net) → Bytes s → decode s ≡ good N → Within N
unfolding decode
decode_within s N b e = subst Good e (told (scan s) refl)
  where
    told : (w : Scan) → scan s ≡ w → Good (decoded s w)
    told (refused k p) h = tt
    told (found ts ns) h = net_within s b ts ns (scan_found s ts ns h)
