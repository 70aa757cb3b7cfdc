-- Small facts about elements: a register is no port and has one operand, and neither is a ROM a port. Assumes nothing.
use Rattle.std.specs.Prelude.{◌≡◌, refl, Bool, true, false, ℕ, ◌≤◌, ◌<◌}
use Rattle.std.proofs.Common.{sym, ap, ◌∙◌, ⊎_elim}
use Rattle.std.proofs.lemmas.Bool.{false≢true}
use Rattle.std.proofs.Math.ListN.{get_or-eq_default}
use Rattle.words.specs.declared.Op.TheVariants.{Constant}
use Rattle.netlist.specs.declared.Node.{Node}
use Rattle.netlist.specs.declared.Element.{Element}
use Rattle.netlist.specs.declared.Element.TheVariants.{Input, Output, Register, Async, Clocked, Gate}
use Rattle.lists.proofs.BelowLaws.{one_le, true_or_false, lt_or_le}
use Rattle.netlist.specs.Net.{Net, size, node_at, nowhere, element_at, operands, is_register, is_async, is_memory, is_input, is_output}
use Rattle.retiming.specs.Leads.{async_here}

pub register_no_port : (e : Element) → is_register e ≡ true → (is_input e ≡ false) × (is_output e ≡ false) × (operands e ≡ 1)
register_no_port Input h = absurd (false≢true h)
register_no_port Output h = absurd (false≢true h)
register_no_port (Register r) h = (refl, refl, refl)
register_no_port (Async m) h = absurd (false≢true h)
register_no_port (Clocked m r) h = absurd (false≢true h)
register_no_port (Gate o) h = absurd (false≢true h)

pub async_le : (N : Net) (u : ℕ) → async_here N u ≤ 1
unfolding async_here
async_le N u = one_le (is_async (element_at N u))

pub rom_no_port : (e : Element) → is_memory e ≡ true → (is_input e ≡ false) × (is_output e ≡ false)
rom_no_port Input h = absurd (false≢true h)
rom_no_port Output h = absurd (false≢true h)
rom_no_port (Register r) h = absurd (false≢true h)
rom_no_port (Async m) h = (refl, refl)
rom_no_port (Clocked m r) h = (refl, refl)
rom_no_port (Gate o) h = absurd (false≢true h)

-- so a port is neither
not_both : (a b : Bool) → (a ≡ true → b ≡ false) → b ≡ true → a ≡ false
not_both a b h e = ⊎_elim (λ t. absurd (false≢true (sym (h t) ∙ e))) (λ t. t) (true_or_false a)

pub input_plain : (e : Element) → is_input e ≡ true → (is_register e ≡ false) × (is_memory e ≡ false)
input_plain e i = (not_both (is_register e) (is_input e) (λ t. (register_no_port e t).0) i, not_both (is_memory e) (is_input e) (λ t. (rom_no_port e t).0) i)

pub output_plain : (e : Element) → is_output e ≡ true → (is_register e ≡ false) × (is_memory e ≡ false)
output_plain e o = (not_both (is_register e) (is_output e) (λ t. (register_no_port e t).1) o, not_both (is_memory e) (is_output e) (λ t. (rom_no_port e t).1) o)

-- a number that no node has is read as a constant, so what is something else is a node
pub found_inside : (N : Net) (q : Element → Bool) → q (Gate (Constant 0)) ≡ false → (v : ℕ) → q (element_at N v) ≡ true → v < size N
unfolding element_at node_at
found_inside N q none v e =
    ⊎_elim (λ h. h) (λ (h : size N ≤ v). absurd (false≢true (sym none ∙ sym (ap (λ (n : Node). q n.element) (get_or-eq_default N.nodes nowhere h)) ∙ e))) (lt_or_le v (size N))
