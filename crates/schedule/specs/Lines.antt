-- A SCHEDULE is the work of a clock laid out in lines, in the order in which it is done. Line i is a node's, and the node's word stands at place i of a row of words:
-- input ports first, then what holds a word, both by number; then the gates and asynchronous ROMs, each behind what it reads. A line has all that its operation asks for.
-- Assumes nothing.
use Rattle.std.specs.Prelude.{◌≡◌, Bool, true, false, List, ℕ, ◌+◌, ◌*◌, ◌≤◌, ◌<◌, length, get_or}
use Rattle.lists.specs.Lists.{count_below}
use Rattle.lists.specs.SelectLaws.{Member}
use Rattle.words.specs.declared.Op.{Op}
use Rattle.words.specs.declared.Op.TheVariants.{Constant, Not, And, Or, Xor, Add, Subtract, Equal, Less, Choose, Part, Join}
use Rattle.netlist.specs.declared.Element.{Element}
use Rattle.netlist.specs.declared.Element.TheVariants.{Input, Output, Register, Async, Clocked, Gate}
use Rattle.netlist.specs.Net.{Net, size, element_at, width_at, source, operands, is_memory}
use Rattle.circuit.specs.Code.{code_of, number_or, table_or}
use Rattle.evaluate.specs.Rows.{row_test}
use Rattle.evaluate.specs.declared.Row.TheVariants.{Inputs, Outputs, State}
use Rattle.schedule.specs.declared.Sizes.{Sizes}

-- the words of a schedule: eight for each of 2,048 lines, then where each output port reads
abbrev pub schedule_words : ℕ
schedule_words = 17408

abbrev pub outputs_from : ℕ
outputs_from = 16384

-- ---- a line: its code, the place behind its run, a width, three places, a number, its node

abbrev pub part : List ℕ → ℕ → ℕ → ℕ
part l i j = get_or l (8 * i + j) 0

abbrev pub code_on : List ℕ → ℕ → ℕ
code_on l i = part l i 0

-- the lines from i up to here have the same code
abbrev pub run_end : List ℕ → ℕ → ℕ
run_end l i = part l i 1

abbrev pub width_on : List ℕ → ℕ → ℕ
width_on l i = part l i 2

-- where operand p's word stands
abbrev pub place_on : List ℕ → ℕ → ℕ → ℕ
place_on l i p = part l i (3 + p)

abbrev pub held_on : List ℕ → ℕ → ℕ
held_on l i = part l i 6

abbrev pub node_on : List ℕ → ℕ → ℕ
node_on l i = part l i 7

-- ---- what a line says of its node

-- the width that an operation asks for: a join's that of its low part, any other's its own
abbrev pub asked : Op → ℕ → ℕ → ℕ
asked (Constant c) own low = own
asked Not own low = own
asked And own low = own
asked Or own low = own
asked Xor own low = own
asked Add own low = own
asked Subtract own low = own
asked Equal own low = own
asked Less own low = own
asked Choose own low = own
asked (Part b) own low = own
asked Join own low = low

abbrev pub asked_by : Element → ℕ → ℕ → ℕ
asked_by Input own low = own
asked_by Output own low = own
asked_by (Register r) own low = own
asked_by (Async m) own low = own
asked_by (Clocked m r) own low = own
asked_by (Gate o) own low = asked o own low

-- its table's number, or the number that it holds
pub record Holds (e : Element) (x : ℕ) : Type 0 where
  pub table : is_memory e ≡ true → x ≡ table_or x e
  pub number : is_memory e ≡ false → x ≡ number_or x e

pub record Line (N : Net) (l : List ℕ) (i : ℕ) : Type 0 where
  pub inside : node_on l i < size N
  pub coded : code_on l i ≡ code_of (element_at N (node_on l i))
  pub wide : width_on l i ≡ asked_by (element_at N (node_on l i)) (width_at N (node_on l i)) (width_at N (source N (node_on l i) 1))
  pub held : Holds (element_at N (node_on l i)) (held_on l i)
  pub near : (p : ℕ) → p < 3 → place_on l i p < 2048

-- its operands' words stand at places below a bound
abbrev pub ReadsBelow : Net → List ℕ → ℕ → ℕ → Type 0
ReadsBelow N l b i = (p : ℕ) → p < operands (element_at N (node_on l i)) → (place_on l i p < b) × (node_on l (place_on l i p) ≡ source N (node_on l i) p)

-- what gives its word within the clock, output ports aside: gates and asynchronous ROMs
abbrev pub is_inner : Element → Bool
is_inner Input = false
is_inner Output = false
is_inner (Register r) = false
is_inner (Async m) = true
is_inner (Clocked m r) = false
is_inner (Gate o) = true

-- a line of such a node: it stands behind what it reads
pub record InnerLine (N : Net) (l : List ℕ) (i : ℕ) : Type 0 where
  pub line : Line N l i
  pub inner : is_inner (element_at N (node_on l i)) ≡ true
  pub behind : ReadsBelow N l i i

-- the lines from i up to a place have one code
pub record RunTo (l : List ℕ) (i e : ℕ) : Type 0 where
  pub some : i < e
  pub alike : (j : ℕ) → i ≤ j → j < e → code_on l j ≡ code_on l i

-- ---- THE SCHEDULE of a netlist

pub record Scheduled (N : Net) (l : List ℕ) (z : Sizes) : Type 0 where
  pub room : schedule_words ≤ length l
  pub few : z.lines ≤ 2048
  pub front : z.inputs + z.held ≤ z.lines
  pub ports : (j : ℕ) → j < z.inputs → Member (row_test Inputs N) (size N) j (node_on l j)
  pub all_ports : z.inputs ≡ count_below (row_test Inputs N) (size N)
  pub holders : (j : ℕ) → j < z.held → Member (row_test State N) (size N) j (node_on l (z.inputs + j))
  pub all_holders : z.held ≡ count_below (row_test State N) (size N)
  pub holder_lines : (j : ℕ) → j < z.held → Line N l (z.inputs + j) × ReadsBelow N l z.lines (z.inputs + j)
  pub inner_lines : (i : ℕ) → z.inputs + z.held ≤ i → i < z.lines → InnerLine N l i
  pub runs : (i : ℕ) → i < z.lines → RunTo l i (run_end l i) × (run_end l i ≤ z.lines)
  pub few_outputs : z.outputs ≤ 1024
  pub all_outputs : z.outputs ≡ count_below (row_test Outputs N) (size N)
  pub outputs : (j v : ℕ) → Member (row_test Outputs N) (size N) j v
      → (get_or l (outputs_from + j) 0 < z.lines) × (node_on l (get_or l (outputs_from + j) 0) ≡ source N v 0)
