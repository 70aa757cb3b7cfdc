-- What a node gives from the words of all nodes, and the words of a clock. Assumes nothing.
use Rattle.std.specs.Prelude.{◌≡◌, Bool, ◌||◌, List, ℕ, ◌^◌, ◌<◌, length, get_or}
use Rattle.netlist.specs.Net.{Net, size, element_at, width_at, source, within_clock, contents_at, is_input, holds_word}
use Rattle.netlist.specs.declared.Element.{Element}
use Rattle.behaviour.specs.Run.{gives_now, words}
use Rattle.evaluate.specs.Rows.{row_of}
use Rattle.evaluate.specs.declared.Row.TheVariants.{Inputs, State}

-- input ports, registers and clocked ROMs are loaded
abbrev pub loaded : Element → Bool
loaded e = is_input e || holds_word e

-- what a node gives: its own word where that was loaded, else from its sources' words
unfoldable pub node_word : Net → List ℕ → ℕ → ℕ
node_word N ws v = gives_now (contents_at N v) (element_at N v) (width_at N v) (λ p. width_at N (source N v p)) (get_or ws v 0) (get_or ws v 0) (λ p. get_or ws (source N v p) 0)

-- all three sources of every node are nodes, also those that do not count: a node's three words are read on no condition
abbrev pub Inside : Net → Type 0
Inside N = (v p : ℕ) → v < size N → p < 3 → source N v p < size N

-- the words that a node reads within the clock fit
abbrev pub OperandsFit : Net → List ℕ → ℕ → Type 0
OperandsFit N ws v = (p : ℕ) → p < within_clock (element_at N v) → get_or ws (source N v p) 0 < 2 ^ width_at N (source N v p)

-- the words of the clock in which input ports, registers and clocked ROMs have these words
unfoldable pub clock_words : Net → List ℕ → List ℕ
clock_words N ws = words N (row_of State N ws) (row_of Inputs N ws)

-- every node has its word of the clock
pub record Evaluated (N : Net) (before after : List ℕ) : Type 0 where
  pub kept : length after ≡ length before
  pub each : (v : ℕ) → v < size N → get_or after v 0 ≡ get_or (clock_words N before) v 0
