-- What a code tells of its element. Assumes nothing.
use Rattle.std.specs.Prelude.{◌≡◌, refl, ℕ, ◌-◌, ◌≤◌, ◌<◌, get_or}
use Rattle.std.proofs.Common.{arith}
use Rattle.words.specs.Words.{operand_counts}
use Rattle.words.specs.declared.Op.TheVariants.{Constant, Not, And, Or, Xor, Add, Subtract, Equal, Less, Choose, Part, Join}
use Rattle.netlist.specs.Net.{operands}
use Rattle.netlist.specs.NodeField.{first_source}
use Rattle.netlist.specs.declared.Element.{Element}
use Rattle.netlist.specs.declared.Element.TheVariants.{Input, Output, Register, Async, Clocked, Gate}
use Rattle.circuit.specs.Code.{code_of, number_or, table_or}

-- how many sources there are: a gate has what the array says of its operation
pub gate_count : (e : Element) → 7 < code_of e → get_or operand_counts (code_of e - 8) 0 ≡ operands e
gate_count Input h = absurd (omega arith)
gate_count Output h = absurd (omega arith)
gate_count (Register r) h = absurd (omega arith)
gate_count (Async m) h = absurd (omega arith)
gate_count (Clocked m r) h = absurd (omega arith)
gate_count (Gate (Constant v)) h = refl
gate_count (Gate Not) h = refl
gate_count (Gate And) h = refl
gate_count (Gate Or) h = refl
gate_count (Gate Xor) h = refl
gate_count (Gate Add) h = refl
gate_count (Gate Subtract) h = refl
gate_count (Gate Equal) h = refl
gate_count (Gate Less) h = refl
gate_count (Gate Choose) h = refl
gate_count (Gate (Part b)) h = refl
gate_count (Gate Join) h = refl

-- an input port has none, and what is neither has one
pub no_source_lem : (e : Element) → code_of e ≡ 0 → 0 ≡ operands e
no_source_lem Input h = refl
no_source_lem Output h = absurd (omega arith)
no_source_lem (Register r) h = absurd (omega arith)
no_source_lem (Async m) h = absurd (omega arith)
no_source_lem (Clocked m r) h = absurd (omega arith)
no_source_lem (Gate o) h = absurd (omega arith)

pub lone_source : (e : Element) → code_of e ≤ 7 → (code_of e ≡ 0 → ⊥) → 1 ≡ operands e
lone_source Input h d = absurd (d refl)
lone_source Output h d = refl
lone_source (Register r) h d = refl
lone_source (Async m) h d = refl
lone_source (Clocked m r) h d = refl
lone_source (Gate o) h d = absurd (omega arith)

-- where the first source stands
pub code_first : (e : Element) → code_of e < 5 → 2 ≡ first_source e
code_first Input h = refl
code_first Output h = refl
code_first (Register r) h = refl
code_first (Async m) h = refl
code_first (Clocked m r) h = refl
code_first (Gate o) h = absurd (omega arith)

pub code_gate : (e : Element) → 5 ≤ code_of e → 3 ≡ first_source e
code_gate Input h = absurd (omega arith)
code_gate Output h = absurd (omega arith)
code_gate (Register r) h = absurd (omega arith)
code_gate (Async m) h = absurd (omega arith)
code_gate (Clocked m r) h = absurd (omega arith)
code_gate (Gate o) h = refl

-- the number and the table of an element, bytes where the file has bytes
abbrev pub Holds : Element → ℕ → ℕ → Type 0
Holds e n t = (n ≡ number_or 0 e) × (t ≡ table_or 0 e) × (t < 256) × (code_of e ≡ 18 → n < 256)

-- what holds neither
pub holds_none : (e : Element) → (code_of e ≡ 2 → ⊥) → (code_of e ≡ 3 → ⊥) → (code_of e ≡ 4 → ⊥) → (code_of e ≡ 8 → ⊥) → (code_of e ≡ 18 → ⊥) → (0 ≡ number_or 0 e) × (0 ≡ table_or 0 e)
holds_none Input a b c d f = (refl, refl)
holds_none Output a b c d f = (refl, refl)
holds_none (Register r) a b c d f = absurd (a refl)
holds_none (Async m) a b c d f = absurd (b refl)
holds_none (Clocked m r) a b c d f = absurd (c refl)
holds_none (Gate (Constant v)) a b c d f = absurd (d refl)
holds_none (Gate Not) a b c d f = (refl, refl)
holds_none (Gate And) a b c d f = (refl, refl)
holds_none (Gate Or) a b c d f = (refl, refl)
holds_none (Gate Xor) a b c d f = (refl, refl)
holds_none (Gate Add) a b c d f = (refl, refl)
holds_none (Gate Subtract) a b c d f = (refl, refl)
holds_none (Gate Equal) a b c d f = (refl, refl)
holds_none (Gate Less) a b c d f = (refl, refl)
holds_none (Gate Choose) a b c d f = (refl, refl)
holds_none (Gate (Part b)) x y z d f = absurd (f refl)
holds_none (Gate Join) a b c d f = (refl, refl)
