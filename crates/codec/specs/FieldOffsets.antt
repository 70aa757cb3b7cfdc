-- The offsets of a netlist's fields, as the bytes of its file tell them. Assumes nothing.
use Rattle.std.specs.Prelude.{◌≡◌, List, ◌++◌, ℕ, ◌+◌, ◌<◌, length, drop}
use Rattle.netlist.specs.Net.{Net}
use Rattle.netlist.specs.Field.{field_end}
use Rattle.netlist.specs.Offsets.{fields_of, field_at, offset_of}

-- in the bytes of a file: the first field stands at 0, each field at its offset, the next one where its content ends, and behind the last the file ends
pub record Running (N : Net) (file : List ℕ) : Type 0 where
  pub first : offset_of N 0 ≡ 0
  pub there : (k : ℕ) → k < length (fields_of N) → drop (offset_of N k) file ≡ field_at N k ++ drop (offset_of N (k + 1)) file
  pub next : (k : ℕ) → k < length (fields_of N) → offset_of N (k + 1) ≡ field_end file (offset_of N k)
  pub last : offset_of N (length (fields_of N)) ≡ length file
