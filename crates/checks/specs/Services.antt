-- What the services of the reader give: a node, and a table's words. Assumes nothing.
use Rattle.std.specs.Prelude.{List, [], ℕ, length, get_or, ltb}
use Rattle.lists.specs.Lists.{concat_map}
use Rattle.lists.specs.Paths.{pick}
use Rattle.words.specs.Words.{bytes}
use Rattle.netlist.specs.Net.{no_table, Net, size, node_at}
use Rattle.netlist.specs.Verdict.{onward, Verdict, Fine, Refuses}
use Rattle.netlist.specs.NodeField.{no_node}
use Rattle.netlist.specs.TableField.{stored}
use Rattle.netlist.specs.File.{decode, decoded_net, file_verdict, answer, given}
use Rattle.netlist.specs.declared.Answer.{Answer}
use Rattle.checks.specs.declared.NodeAnswer.{NodeAnswer}

-- 6 ("no such node or table") with place 65,535 where the number asked for is not below how many there are
abbrev pub numbered : ℕ → ℕ → Verdict
numbered v n = pick (ltb v n) Fine (Refuses 6 65535)

-- node v, accepted with the number of nodes
abbrev pub node_by : Verdict → Net → ℕ → NodeAnswer
node_by w N v = record { answer = answer w (size N); node = given w (node_at N v) no_node }

unfoldable pub node_of_file : List ℕ → ℕ → NodeAnswer
node_of_file s v = let N = decoded_net (decode s) in node_by (onward (file_verdict s) (numbered v (size N))) N v

-- the stored words of table k as bytes, accepted with the number of bytes
abbrev pub words_of_net : Net → ℕ → List ℕ
words_of_net N k = concat_map bytes (stored (get_or N.tables k no_table).body)

pub record WordsAnswer : Type 0 where
  pub answer : Answer
  pub words : List ℕ

abbrev pub words_by : Verdict → List ℕ → WordsAnswer
words_by w words = record { answer = answer w (length words); words = given w words [] }

unfoldable pub words_of_file : List ℕ → ℕ → WordsAnswer
words_of_file s k = let N = decoded_net (decode s) in words_by (onward (file_verdict s) (numbered k (length N.tables))) (words_of_net N k)
