-- T-02: a file whose tables have fill words, and the file with its tables spelled out, run alike and are rewritten alike but for the tables' fields.
-- Stated over any two files whose tables answer alike, whichever way they are written. Assumes nothing.
use Rattle.std.specs.Prelude.{◌≡◌, List, ℕ}
use Rattle.netlist.specs.Net.{Table}
use Rattle.netlist.specs.File.{file_verdict}
use Rattle.behaviour.specs.Service.{reset_file, Entry, runs_file}
use Rattle.retiming.specs.FileRewrite.{rewriter_verdict, rewritten_file}
use Rattle.retiming.specs.Respelled.{with_tables}

-- the files f and g, with tables ts and us, are alike but for these
pub record SameButTables (f g : List ℕ) (ts us : List Table) : Type 0 where
  -- 1 to 10, the state at reset, and every list of runs from any state, refused ones included
  pub checked : file_verdict f ≡ file_verdict g
  pub reset : (state : List ℕ) → reset_file f state ≡ reset_file g state
  pub runs : (es : List Entry) (state : List ℕ) → runs_file f state es ≡ runs_file g state es
  -- 1 to 13, and the rewritten files: the same behind the tables' fields, and these each file's own
  pub judged : rewriter_verdict f ≡ rewriter_verdict g
  pub rest : List ℕ
  pub first : rewritten_file f ≡ with_tables ts rest
  pub second : rewritten_file g ≡ with_tables us rest
