-- The rows of words that a host lends, one word for each node of a class, by node number. Assumes nothing.
use Rattle.std.specs.Prelude.{◌≡◌, Bool, true, false, List, ℕ, ◌^◌, ◌<◌, length, get_or}
use Rattle.std.proofs.Common.{sym, ◌∙◌}
use Rattle.lists.specs.Lists.{select}
use Rattle.lists.proofs.ListsLaws.{length-select}
use Rattle.lists.proofs.SelectLaws.{members_count}
use Rattle.netlist.specs.Net.{Net, size, element_at, width_at, is_input, is_output, holds_word}
use Rattle.netlist.specs.declared.Element.{Element}
use Rattle.behaviour.specs.Service.{words_in}
use Rattle.evaluate.specs.declared.Row.{Row}
use Rattle.evaluate.specs.declared.Row.TheVariants.{Inputs, Outputs, State}

-- the elements that have a word in a row
abbrev pub in_row : Row → Element → Bool
in_row Inputs e = is_input e
in_row Outputs e = is_output e
in_row State e = holds_word e

abbrev pub row_test : Row → Net → ℕ → Bool
row_test row N v = in_row row (element_at N v)

-- the nodes that have a word in a row, by number
abbrev pub row_members : Row → Net → List ℕ
row_members row N = select (row_test row N) (λ v. v) (size N)

-- the widths of a row's words
abbrev pub row_widths : Row → Net → List ℕ
row_widths row N = select (row_test row N) (λ v. width_at N v) (size N)

-- as many as its members
pub row_count : (row : Row) (N : Net) {members : List ℕ} → members ≡ row_members row N → length members ≡ length (row_widths row N)
row_count row N e = members_count (row_test row N) (size N) e ∙ sym (length-select (row_test row N) (λ v. width_at N v) (size N))

-- a row, from the words of all nodes
abbrev pub row_of : Row → Net → List ℕ → List ℕ
row_of row N ws = select (row_test row N) (λ v. get_or ws v 0) (size N)

-- its words fit
abbrev pub RowFits : Row → Net → List ℕ → Type 0
RowFits row N ws = (v : ℕ) → v < size N → row_test row N v ≡ true → get_or ws v 0 < 2 ^ width_at N v

-- what loading a row from bytes makes of the words of all nodes
pub record Loaded (row : Row) (N : Net) (bytes before after : List ℕ) : Type 0 where
  pub kept : length after ≡ length before
  pub words : row_of row N after ≡ words_in bytes
  pub fit : RowFits row N after
  pub others : (v : ℕ) → row_test row N v ≡ false → get_or after v 0 ≡ get_or before v 0
