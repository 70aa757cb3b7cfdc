-- T-04, for every file that the rewriter accepts and every output that is long enough. The rewritten file is its fields one behind the other: the head, each
-- table, each node, the end. The offset of a field is the sum of the whole lengths (tag, length and content) of the fields before it: the head stands at 0,
-- each field at its offset, the next one where its content ends by the length that is written there, and the offset behind the end field is the file's length
-- and the answer's. So any field of a rewritten file is found by adding lengths up, and no byte of it lies outside a field.
-- That the writer carries just this offset from field to field is the promise of `put_field` (crate saving): it is handed field k's and gives the next. Assumes nothing.
use Rattle.std.specs.Prelude.{List, ℕ}
use Rattle.netlist.specs.Net.{Net}
use Rattle.netlist.specs.File.{decode, decoded_net}
use Rattle.retiming.specs.FileRewrite.{rewritten_file}

-- the netlist that is read from the rewritten file
abbrev pub new_net : List ℕ → Net
new_net s = decoded_net (decode (rewritten_file s))
