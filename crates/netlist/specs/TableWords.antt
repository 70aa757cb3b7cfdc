-- Where in a file the word of an address stands: what the code reads of a table. Assumes nothing.
use Rattle.std.specs.Prelude.{◌≡◌, List, ℕ, ◌+◌, ◌≤◌, length}
use Rattle.std.proofs.Math.ListN.{get_or}
use Rattle.words.specs.Words.{word}
use Rattle.netlist.specs.Net.{spelled}
use Rattle.netlist.specs.File.{table_in}

-- the table whose field stands at `at` answers, at address a, the word that stands at p
pub record Answers (s : List ℕ) (at a p : ℕ) : Type 0 where
  pub inside : p + 2 ≤ length s
  pub is : word s p ≡ get_or (spelled (table_in s at)) a 0
