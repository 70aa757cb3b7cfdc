-- The refusals by name: the number and the place of each, and the verdict and the answer that it is. Assumes nothing.
use Rattle.std.specs.Prelude.{ℕ, Result, Ok, Err}
use Rattle.netlist.specs.declared.Answer.{Answer}
use Rattle.netlist.specs.declared.Answer.TheVariants.{Accepted, Refused}
use Rattle.netlist.specs.declared.Refusal.{Refusal}
use Rattle.netlist.specs.declared.Refusal.TheVariants.{Long, Short, Tag, Table, Node, Source, Width, Unread, UnreadTable, Loop, Ring, ClosedDebt, PortDebt, Grown, Out, Words, State}
use Rattle.netlist.specs.Verdict.{Verdict, Fine, Refuses}

abbrev pub number_of : Refusal → ℕ
number_of Long = 1
number_of (Short at) = 2
number_of (Tag at) = 3
number_of (Table at) = 4
number_of (Node at) = 5
number_of (Source v) = 6
number_of (Width v) = 7
number_of (Unread v) = 8
number_of (UnreadTable k) = 17
number_of (Loop v) = 9
number_of (Ring v) = 10
number_of ClosedDebt = 11
number_of (PortDebt v) = 12
number_of Grown = 13
number_of Out = 14
number_of Words = 15
number_of State = 16

-- the offset of a field, a node, a table; 65,535 where it is of the whole
abbrev pub place_of : Refusal → ℕ
place_of Long = 0
place_of (Short at) = at
place_of (Tag at) = at
place_of (Table at) = at
place_of (Node at) = at
place_of (Source v) = v
place_of (Width v) = v
place_of (Unread v) = v
place_of (UnreadTable k) = k
place_of (Loop v) = v
place_of (Ring v) = v
place_of ClosedDebt = 65535
place_of (PortDebt v) = v
place_of Grown = 65535
place_of Out = 65535
place_of Words = 65535
place_of State = 65535

-- what a step says that may be refused
abbrev pub said : {A : Type 0} → Result A Refusal → Verdict
said (Ok x) = Fine
said (Err r) = Refuses (number_of r) (place_of r)

-- a refusal as the answer of a service, and what becomes its answer where it ends
abbrev pub refused : Refusal → Answer
refused r = Refused (number_of r) (place_of r)

abbrev pub answered : Result ℕ Refusal → Answer
answered (Ok n) = Accepted n
answered (Err r) = refused r
