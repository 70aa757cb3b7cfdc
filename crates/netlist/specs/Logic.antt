-- Steps into gates and asynchronous ROMs alone. A node reaches itself by these just where it does by steps within the clock: an output port is never a source.
-- Assumes nothing.
use Rattle.std.specs.Prelude.{ℕ, ◌≤◌}
use Rattle.std.proofs.Common.{zero-le, le_refl}
use Rattle.words.specs.Gates.{operands_of}
use Rattle.netlist.specs.declared.Element.{Element}
use Rattle.netlist.specs.declared.Element.TheVariants.{Input, Output, Register, Async, Clocked, Gate}
use Rattle.netlist.specs.Net.{Class, operands, arity_some}

abbrev pub logic_of : Element → ℕ
logic_of Input = 0
logic_of Output = 0
logic_of (Register r) = 0
logic_of (Async m) = 1
logic_of (Clocked m r) = 0
logic_of (Gate o) = operands_of o

pub logic_few : (e : Element) → logic_of e ≤ operands e
logic_few Input = zero-le
logic_few Output = zero-le
logic_few (Register r) = zero-le
logic_few (Async m) = arity_some m
logic_few (Clocked m r) = zero-le
logic_few (Gate o) = le_refl _

abbrev pub in_logic : Class
in_logic = record { of = logic_of; few = logic_few }
