-- A netlist within the format's limits is so too with its tables spelled out: it has a file of tag 2 tables alone. Assumes nothing.
use Rattle.std.specs.Prelude.{◌≡◌, List, ℕ, ◌<◌, length, get_or}
use Rattle.std.proofs.lemmas.List.{length-map}
use Rattle.lists.proofs.BelowLaws.{get_or_map-lt}
use Rattle.netlist.specs.Net.{Table, no_table, spelled, Net, node_at, element_at, width_at}
use Rattle.netlist.specs.Checks.{TableFits}
use Rattle.netlist.specs.File.{good, decode, encode}
use Rattle.netlist.specs.Respelled.{spelled_table, spelled_net}
use Rattle.codec.specs.Bytes.{Bytes}
use Rattle.codec.specs.Within.{Within}
use Rattle.codec.proofs.DecodeWithin.{decode_within}
use Rattle.codec.proofs.DecodeEncode.{decode-encode}

spelled-fits : (t : Table) → TableFits t → TableFits (spelled_table t)
unfolding spelled
spelled-fits t f =
    record { bits_low = f.bits_low; bits_high = f.bits_high; wide_low = f.wide_low; wide_high = f.wide_high; all_words = f.all_words; each_fits = f.each_fits; body_fits = tt }

within_spelled : (N : Net) → Within N → Within (spelled_net N)
unfolding node_at element_at width_at
within_spelled N w =
    record {
      few_tables = rw (length-map N.tables spelled_table) w.few_tables;
      fields = record {
        bounds = record { nodes = w.fields.bounds.nodes };
        tables_fit = λ m h.
            let l : m < length N.tables = rw (length-map N.tables spelled_table) at h in
            rw (get_or_map-lt spelled_table N.tables m no_table no_table l) (spelled-fits (get_or N.tables m no_table) (w.fields.tables_fit m l));
        width_low = w.fields.width_low;
        width_high = w.fields.width_high;
        word_fits = w.fields.word_fits;
      };
      records = w.records;
    }

-- the file with every table spelled out is read as such
pub decode-spelled : (s : List ℕ) (N : Net) → Bytes s → decode s ≡ good N → decode (encode (spelled_net N)) ≡ good (spelled_net N)
decode-spelled s N b e = decode-encode (spelled_net N) (within_spelled N (decode_within s N b e))
