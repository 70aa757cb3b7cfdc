-- What the lines of a schedule give, from the words that stand at their places. Assumes nothing.
use Rattle.std.specs.Prelude.{◌≡◌, true, List, ℕ, ◌-◌, ◌^◌, ◌≤◌, ◌<◌, length, get_or}
use Rattle.words.specs.declared.Op.{Op}
use Rattle.gates.specs.Gate.{gate_word}
use Rattle.netlist.specs.Net.{Net, element_at, width_at, source, contents_at, holds_word}
use Rattle.behaviour.specs.Run.{gives_now, holds_next}
use Rattle.schedule.specs.Lines.{schedule_words, part, width_on, place_on, node_on, code_on, Line, InnerLine}

-- what the node of line i gives, one that is not loaded
unfoldable pub line_word : Net → List ℕ → List ℕ → ℕ → ℕ
line_word N l ws i =
    gives_now (contents_at N (node_on l i)) (element_at N (node_on l i)) (width_at N (node_on l i)) (λ p. width_at N (source N (node_on l i) p)) 0 0 (λ p. get_or ws (place_on l i p) 0)

-- and what it holds after the clock
unfoldable pub line_next : Net → List ℕ → List ℕ → ℕ → ℕ
line_next N l ws i = holds_next (contents_at N (node_on l i)) (element_at N (node_on l i)) (λ p. get_or ws (place_on l i p) 0)

-- the words before place i fit their nodes' widths
abbrev pub FitTo : Net → List ℕ → List ℕ → ℕ → Type 0
FitTo N l ws i = (j : ℕ) → j < i → get_or ws j 0 < 2 ^ width_at N (node_on l j)

-- the lines from one place up to another are done: each word is what its line gives from the words before it, which stay
pub record Stepped (N : Net) (l : List ℕ) (from to : ℕ) (before after : List ℕ) : Type 0 where
  pub kept : length after ≡ length before
  pub others : (j : ℕ) → j < from → get_or after j 0 ≡ get_or before j 0
  pub each : (j : ℕ) → from ≤ j → j < to → get_or after j 0 ≡ line_word N l after j
  pub fit : FitTo N l after to

-- ---- an operation on a line

abbrev pub gate_on : List ℕ → Op → ℕ → List ℕ → ℕ
gate_on l o i ws = gate_word o (width_on l i) (width_on l i) (get_or ws (place_on l i 0) 0) (get_or ws (place_on l i 1) 0) (get_or ws (place_on l i 2) 0)

-- what it asks for
pub record GateAsks (l : List ℕ) (o : Op) (i : ℕ) (ws : List ℕ) : Type 0 where
  pub near : (p : ℕ) → p < 3 → place_on l i p < 2048
  pub narrow : width_on l i ≤ 16
  pub fits : gate_on l o i ws < 65536

-- the operand of a choose gate that its selector, 0 or 1, names
abbrev pub chosen_on : List ℕ → ℕ → List ℕ → ℕ
chosen_on l i ws = get_or ws (part l i (5 - get_or ws (place_on l i 0) 0)) 0

-- ---- what is asked for a line, and for the lines from one place up to another, all of one code

pub record OnLine (N : Net) (l ws : List ℕ) (i : ℕ) : Type 0 where
  pub room : schedule_words ≤ length l
  pub few : i < 2048
  pub space : 2048 ≤ length ws
  pub inner : InnerLine N l i
  pub fit : FitTo N l ws i

pub record OnRun (N : Net) (l ws : List ℕ) (code from to : ℕ) : Type 0 where
  pub room : schedule_words ≤ length l
  pub low : from ≤ to
  pub few : to ≤ 2048
  pub space : 2048 ≤ length ws
  pub lines : (i : ℕ) → from ≤ i → i < to → InnerLine N l i × (code_on l i ≡ code)
  pub fit : FitTo N l ws from

-- and for the line of a register or a clocked ROM
pub record OnHolder (N : Net) (l ws : List ℕ) (i : ℕ) : Type 0 where
  pub room : schedule_words ≤ length l
  pub few : i < 2048
  pub space : 2048 ≤ length ws
  pub line : Line N l i
  pub holds : holds_word (element_at N (node_on l i)) ≡ true
  pub fit : get_or ws (place_on l i 0) 0 < 2 ^ width_at N (source N (node_on l i) 0)
