-- An element by one number: its kind in the file, where each operation of a gate has a number of its own. The numbers 5 to 7 are kinds that have none. Assumes nothing.
use Rattle.std.specs.Prelude.{◌⊎◌, ℕ, ◌+◌, ◌-◌, ◌≤◌, ◌<◌, eqb}
use Rattle.lists.specs.Paths.{pick}
use Rattle.words.specs.declared.Op.{Op}
use Rattle.words.specs.declared.Op.TheVariants.{Constant, Not, And, Or, Xor, Add, Subtract, Equal, Less, Choose, Part, Join}
use Rattle.netlist.specs.declared.Element.{Element}
use Rattle.netlist.specs.declared.Element.TheVariants.{Input, Output, Register, Async, Clocked, Gate}
use Rattle.netlist.specs.NodeField.{plain_op, op_number}
use Rattle.netlist.specs.Net.{rom}

abbrev pub code_of : Element → ℕ
code_of Input = 0
code_of Output = 1
code_of (Register r) = 2
code_of (Async m) = 3
code_of (Clocked m r) = 4
code_of (Gate o) = 8 + op_number o

-- the numbers that are codes
abbrev pub Coded : ℕ → Type 0
Coded c = (c < 5) ⊎ ((8 ≤ c) × (c < 20))

-- ---- an element by its code, its number (of a constant, a part, a register or a clocked ROM) and its table

unfoldable pub op_by : ℕ → ℕ → Op
op_by k x = pick (eqb k 0) (Constant x) (pick (eqb k 10) (Part x) (plain_op k))

unfoldable pub element_by : ℕ → ℕ → ℕ → Element
element_by c x t =
    pick (eqb c 0) Input
    (pick (eqb c 1) Output
    (pick (eqb c 2) (Register x)
    (pick (eqb c 3) (Async (rom t))
    (pick (eqb c 4) (Clocked (rom t) x)
    (Gate (op_by (c - 8) x))))))

-- the number that an element holds, and its table; x where there is none
abbrev pub op_number_or : ℕ → Op → ℕ
op_number_or x (Constant v) = v
op_number_or x Not = x
op_number_or x And = x
op_number_or x Or = x
op_number_or x Xor = x
op_number_or x Add = x
op_number_or x Subtract = x
op_number_or x Equal = x
op_number_or x Less = x
op_number_or x Choose = x
op_number_or x (Part b) = b
op_number_or x Join = x

abbrev pub number_or : ℕ → Element → ℕ
number_or x Input = x
number_or x Output = x
number_or x (Register r) = r
number_or x (Async m) = x
number_or x (Clocked m r) = r
number_or x (Gate o) = op_number_or x o

abbrev pub table_or : ℕ → Element → ℕ
table_or x Input = x
table_or x Output = x
table_or x (Register r) = x
table_or x (Async m) = m.table
table_or x (Clocked m r) = m.table
table_or x (Gate o) = x
