-- Checks as a list of stages, and the reader's: the refusals 6 to 8, 17 (T-06), 9 and 10 of a netlist whose fields are in order (1 to 5), each with its place, in checking order.
-- Assumes nothing.
use Rattle.std.specs.Prelude.{Bool, true, false, not, ◌&&◌, ◌||◌, List, [], ◌∷◌, ℕ, ◌+◌, length, get_or, eqb, leb, ltb}
use Rattle.words.specs.declared.Op.{Op}
use Rattle.words.specs.declared.Op.TheVariants.{Constant, Not, And, Or, Xor, Add, Subtract, Equal, Less, Choose, Part, Join}
use Rattle.netlist.specs.declared.Memory.{Memory}
use Rattle.netlist.specs.declared.Element.{Element}
use Rattle.netlist.specs.declared.Element.TheVariants.{Input, Output, Register, Async, Clocked, Gate}
use Rattle.lists.specs.Lists.{any_below, lowest}
use Rattle.netlist.specs.Net.{Table, no_table, table_no, table_of, Net, size, element_at, width_at, source, operands, is_input, is_output, is_memory, in_registers, in_clock}
use Rattle.netlist.specs.Reach.{reads_test, reaches_itself}

-- what checks say over a whole netlist: nothing, or the number of a refusal and its place
pub data Verdict : Type 0 where
  Fine : Verdict
  Refuses : ℕ → ℕ → Verdict

-- 6: no such node or table, or an output port as source
abbrev pub table_there : List Table → Element → Bool
table_there ts Input = true
table_there ts Output = true
table_there ts (Register r) = true
table_there ts (Async m) = ltb (table_no m) (length ts)
table_there ts (Clocked m r) = ltb (table_no m) (length ts)
table_there ts (Gate o) = true

-- u is no node, or an output port
abbrev pub no_source : Net → ℕ → Bool
no_source N u = not (ltb u (size N)) || is_output (element_at N u)

unfoldable pub bad_source : Net → ℕ → Bool
bad_source N v = not (table_there N.tables (element_at N v)) || any_below (operands (element_at N v)) (λ p. no_source N (source N v p))

-- 7: width rule broken
abbrev pub op_widths : Op → ℕ → (ℕ → ℕ) → Bool
op_widths (Constant c) w ws = true
op_widths Not w ws = eqb (ws 0) w
op_widths And w ws = eqb (ws 0) w && eqb (ws 1) w
op_widths Or w ws = eqb (ws 0) w && eqb (ws 1) w
op_widths Xor w ws = eqb (ws 0) w && eqb (ws 1) w
op_widths Add w ws = eqb (ws 0) w && eqb (ws 1) w
op_widths Subtract w ws = eqb (ws 0) w && eqb (ws 1) w
op_widths Equal w ws = eqb (ws 0) (ws 1) && eqb w 1
op_widths Less w ws = eqb (ws 0) (ws 1) && eqb w 1
op_widths Choose w ws = eqb (ws 0) 1 && (eqb (ws 1) w && eqb (ws 2) w)
op_widths (Part b) w ws = leb (b + w) (ws 0)
op_widths Join w ws = eqb (ws 0 + ws 1) w

abbrev pub memory_right : Table → Memory → ℕ → (ℕ → ℕ) → Bool
memory_right t m w ws = eqb (ws 0) t.bits && eqb w t.wide

abbrev pub widths_right : List Table → Element → ℕ → (ℕ → ℕ) → Bool
widths_right ts Input w ws = true
widths_right ts Output w ws = eqb (ws 0) w
widths_right ts (Register r) w ws = eqb (ws 0) w
widths_right ts (Async m) w ws = memory_right (get_or ts (table_no m) no_table) m w ws
widths_right ts (Clocked m r) w ws = memory_right (get_or ts (table_no m) no_table) m w ws
widths_right ts (Gate o) w ws = op_widths o w ws

unfoldable pub bad_width : Net → ℕ → Bool
bad_width N v = not (widths_right N.tables (element_at N v) (width_at N v) (λ p. width_at N (source N v p)))

-- 8: no reader, and not a port
unfoldable pub unread : Net → ℕ → Bool
unread N v = not (is_input (element_at N v) || is_output (element_at N v)) && not (any_below (size N) (λ x. reads_test N x v))

-- 17: "a table is read by no node"
abbrev pub reads_table : Element → ℕ → Bool
reads_table e m = is_memory e && eqb (table_of e) m

unfoldable pub table_in_use : Net → ℕ → Bool
table_in_use N m = any_below (size N) (λ v. reads_table (element_at N v) m)

unfoldable pub unread_table : Net → ℕ → Bool
unread_table N m = not (table_in_use N m)

-- 9: it reaches itself through gates and asynchronous ROMs alone. 10: through registers alone
unfoldable pub in_loop : Net → ℕ → Bool
in_loop N v = reaches_itself in_clock N v

unfoldable pub in_ring : Net → ℕ → Bool
in_ring N v = reaches_itself in_registers N v

-- a check: its number, how many things it looks at, which of them it finds bad, and the place that it then names
pub record Stage : Type 0 where
  pub number : ℕ
  pub over : ℕ
  pub bad : ℕ → Bool
  pub place : ℕ → ℕ

-- over nodes (or tables): the lowest bad one. Over the netlist: 65,535
abbrev pub at_lowest : ℕ → ℕ → (ℕ → Bool) → Stage
at_lowest number n bad = record { number = number; over = n; bad = bad; place = λ v. v }

abbrev pub of_whole : ℕ → (ℕ → Bool) → Stage
of_whole number bad = record { number = number; over = 1; bad = bad; place = λ v. 65535 }

-- checks in order: the first that finds something bad refuses
unfoldable pub verdict : List Stage → Verdict
verdict [] = Fine
verdict (s ∷ l) = elim (ltb (lowest s.over s.bad) s.over) [ true ↦ Refuses s.number (s.place (lowest s.over s.bad)) | false ↦ verdict l ]

-- checks after others: what they say where those find nothing
abbrev pub onward : Verdict → Verdict → Verdict
onward Fine w = w
onward (Refuses k p) w = Refuses k p

-- what the reader says: 17 stands "directly after 8"
unfoldable pub reader_stages : Net → List Stage
reader_stages N =
    at_lowest 6 (size N) (bad_source N) ∷ at_lowest 7 (size N) (bad_width N) ∷ at_lowest 8 (size N) (unread N)
    ∷ at_lowest 17 (length N.tables) (unread_table N) ∷ at_lowest 9 (size N) (in_loop N) ∷ at_lowest 10 (size N) (in_ring N) ∷ []

unfoldable pub reader_verdict : Net → Verdict
reader_verdict N = verdict (reader_stages N)
