-- What the checks 4 to 10 leave of a netlist, and 17. Assumes nothing.
use Rattle.std.specs.Prelude.{◌≡◌, true, false, List, ℕ, ◌+◌, ◌^◌, ◌≤◌, ◌<◌, length, get_or}
use Rattle.words.specs.declared.Op.{Op}
use Rattle.words.specs.declared.Op.TheVariants.{Constant, Not, And, Or, Xor, Add, Subtract, Equal, Less, Choose, Part, Join}
use Rattle.netlist.specs.declared.Memory.{Memory}
use Rattle.netlist.specs.declared.Element.{Element}
use Rattle.netlist.specs.declared.Element.TheVariants.{Input, Output, Register, Async, Clocked, Gate}
use Rattle.netlist.specs.Net.{Body, Words, WithFill, Table, no_table, table_no, spelled, Net, size, element_at, width_at, source, operands, is_input, is_output, Sourced}
use Rattle.netlist.specs.Reach.{Reads}
use Rattle.netlist.specs.Verdict.{reads_table}
use Rattle.netlist.specs.Rank.{Loop, Ring}

-- 7, of an operation: its width w and its operands' widths
abbrev pub OpWidths : Op → ℕ → (ℕ → ℕ) → Type 0
OpWidths (Constant c) w ws = Unit {0}
OpWidths Not w ws = ws 0 ≡ w
OpWidths And w ws = (ws 0 ≡ w) × (ws 1 ≡ w)
OpWidths Or w ws = (ws 0 ≡ w) × (ws 1 ≡ w)
OpWidths Xor w ws = (ws 0 ≡ w) × (ws 1 ≡ w)
OpWidths Add w ws = (ws 0 ≡ w) × (ws 1 ≡ w)
OpWidths Subtract w ws = (ws 0 ≡ w) × (ws 1 ≡ w)
OpWidths Equal w ws = (ws 0 ≡ ws 1) × (w ≡ 1)
OpWidths Less w ws = (ws 0 ≡ ws 1) × (w ≡ 1)
OpWidths Choose w ws = (ws 0 ≡ 1) × (ws 1 ≡ w) × (ws 2 ≡ w)
OpWidths (Part b) w ws = b + w ≤ ws 0
OpWidths Join w ws = ws 0 + ws 1 ≡ w

abbrev pub table_in : List Table → ℕ → Table
table_in ts m = get_or ts m no_table

-- 7, of a memory over table t
abbrev pub MemoryWidths : Table → Memory → ℕ → (ℕ → ℕ) → Type 0
MemoryWidths t m w ws = (ws 0 ≡ t.bits) × (w ≡ t.wide)

-- 7, of an element
abbrev pub ElementWidths : List Table → Element → ℕ → (ℕ → ℕ) → Type 0
ElementWidths ts Input w ws = Unit {0}
ElementWidths ts Output w ws = ws 0 ≡ w
ElementWidths ts (Register r) w ws = ws 0 ≡ w
ElementWidths ts (Async m) w ws = MemoryWidths (table_in ts (table_no m)) m w ws
ElementWidths ts (Clocked m r) w ws = MemoryWidths (table_in ts (table_no m)) m w ws
ElementWidths ts (Gate o) w ws = OpWidths o w ws

-- 5: a reset word or a constant fits the width
abbrev pub OpFits : Op → ℕ → Type 0
OpFits (Constant c) w = c < 2 ^ w
OpFits Not w = Unit {0}
OpFits And w = Unit {0}
OpFits Or w = Unit {0}
OpFits Xor w = Unit {0}
OpFits Add w = Unit {0}
OpFits Subtract w = Unit {0}
OpFits Equal w = Unit {0}
OpFits Less w = Unit {0}
OpFits Choose w = Unit {0}
OpFits (Part b) w = Unit {0}
OpFits Join w = Unit {0}

abbrev pub Fits : Element → ℕ → Type 0
Fits Input w = Unit {0}
Fits Output w = Unit {0}
Fits (Register r) w = r < 2 ^ w
Fits (Async m) w = Unit {0}
Fits (Clocked m r) w = r < 2 ^ w
Fits (Gate o) w = OpFits o w

-- 6: the table is there
abbrev pub HasTable : List Table → Element → Type 0
HasTable ts Input = Unit {0}
HasTable ts Output = Unit {0}
HasTable ts (Register r) = Unit {0}
HasTable ts (Async m) = table_no m < length ts
HasTable ts (Clocked m r) = table_no m < length ts
HasTable ts (Gate o) = Unit {0}

abbrev pub HasTables : Net → Type 0
HasTables N = (v : ℕ) → v < size N → HasTable N.tables (element_at N v)

-- 6, of node v: its table is there, and each of its sources is a node and no output port
abbrev pub SourcesRight : Net → ℕ → Type 0
SourcesRight N v = HasTable N.tables (element_at N v)
    × ((p : ℕ) → p < operands (element_at N v) → (source N v p < size N) × (is_output (element_at N (source N v p)) ≡ false))

-- 7
abbrev pub WidthsRight : Net → ℕ → Type 0
WidthsRight N v = ElementWidths N.tables (element_at N v) (width_at N v) (λ p. width_at N (source N v p))

-- 8: it has a reader, unless it is a port
abbrev pub HasReader : Net → ℕ → Type 0
HasReader N v = is_input (element_at N v) ≡ false → is_output (element_at N v) ≡ false → (x : ℕ) × Reads N x v

-- 17, of table m: a node reads it
abbrev pub TableHasReader : Net → ℕ → Type 0
TableHasReader N m = (v : ℕ) × (v < size N) × (reads_table (element_at N v) m ≡ true)

-- 4, of how a table is written, beyond what its addresses show: beside a fill word there is some word, and the fill word fits also where no address reads it
abbrev pub BodyFits : Body → ℕ → Type 0
BodyFits (Words l) m = Unit {0}
BodyFits (WithFill f l) m = (1 ≤ length l) × (f < m)

-- 4
pub record TableFits (t : Table) : Type 0 where
  pub bits_low : 1 ≤ t.bits
  pub bits_high : t.bits ≤ 10
  pub wide_low : 1 ≤ t.wide
  pub wide_high : t.wide ≤ 16
  pub all_words : length (spelled t) ≡ 2 ^ t.bits
  pub each_fits : (a : ℕ) → a < length (spelled t) → get_or (spelled t) a 0 < 2 ^ t.wide
  pub body_fits : BodyFits t.body (2 ^ t.wide)

-- what 5 and 13 leave of sizes. (How many tables there may be is a limit of the file: codec, Within.)
pub record Bounds (N : Net) : Type 0 where
  pub nodes : size N ≤ 1024

-- what 1 to 5 leave
pub record FieldsFit (N : Net) : Type 0 where
  pub bounds : Bounds N
  pub tables_fit : (m : ℕ) → m < length N.tables → TableFits (table_in N.tables m)
  pub width_low : (v : ℕ) → v < size N → 1 ≤ width_at N v
  pub width_high : (v : ℕ) → v < size N → width_at N v ≤ 16
  pub word_fits : (v : ℕ) → v < size N → Fits (element_at N v) (width_at N v)

-- and 6 to 10
pub record WellFormed (N : Net) : Type 0 where
  pub fields : FieldsFit N
  pub sourced : Sourced N
  pub outputs_unread : (v p : ℕ) → v < size N → p < operands (element_at N v) → is_output (element_at N (source N v p)) ≡ false
  pub has_table : HasTables N
  pub widths : (v : ℕ) → v < size N → WidthsRight N v
  pub read : (v : ℕ) → v < size N → HasReader N v
  pub no_loop : (v : ℕ) → Loop N v → ⊥
  pub no_ring : (v : ℕ) → Ring N v → ⊥

-- and 17. It stands beside them: a netlist that is late-started lacks it, and nothing else, until its unread tables are left out
abbrev pub TablesRead : Net → Type 0
TablesRead N = (m : ℕ) → m < length N.tables → TableHasReader N m
