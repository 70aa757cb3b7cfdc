-- What the checks ask of a rewritten element: its widths, its words and its table, from what they ask of the old one. Assumes nothing.
use Rattle.std.specs.Prelude.{◌≡◌, refl, true, List, ℕ, ◌^◌, ◌<◌, length}
use Rattle.std.proofs.Common.{sym, ap, ◌∙◌, subst, arith, lit<}
use Rattle.std.proofs.lemmas.Bool.{false≢true}
use Rattle.words.specs.declared.Op.{Op}
use Rattle.words.specs.declared.Op.TheVariants.{Constant, Not, And, Or, Xor, Add, Subtract, Equal, Less, Choose, Part, Join}
use Rattle.netlist.specs.declared.Memory.{Memory}
use Rattle.netlist.specs.declared.Element.{Element}
use Rattle.netlist.specs.declared.Element.TheVariants.{Input, Output, Register, Async, Clocked, Gate}
use Rattle.netlist.specs.Net.{Table, Net, element_at, width_at, source, operands, is_register, is_input, is_output, is_memory, arity, table_no, retabled, table_of, RegistersFit}
use Rattle.words.specs.Gates.{operands_of}
use Rattle.retiming.specs.Rewrite.{new_element}
use Rattle.netlist.specs.Checks.{OpWidths, MemoryWidths, ElementWidths, Fits, HasTable, table_in, WellFormed}
use Rattle.retiming.proofs.Candidate.{table-retabled}

-- a memory's new table is there, and as the old one in size
pub record SizedAlike (ts ts' : List Table) (e : Element) (m : ℕ) : Type 0 where
  pub there : m < length ts'
  pub bits : (table_in ts' m).bits ≡ (table_in ts (table_of e)).bits
  pub wide : (table_in ts' m).wide ≡ (table_in ts (table_of e)).wide

-- ---- widths depend on the operands' widths alone, and a rewritten element has the old one's rule

module _ (w : ℕ) (ws ws' : ℕ → ℕ) where
  op_widths_lem : (o : Op) → ((p : ℕ) → p < operands_of o → ws p ≡ ws' p) → OpWidths o w ws → OpWidths o w ws'
  op_widths_lem (Constant c) e r = tt
  op_widths_lem Not e r = sym (e 0 (lit< tt)) ∙ r
  op_widths_lem And e r = (sym (e 0 (lit< tt)) ∙ r.0, sym (e 1 (lit< tt)) ∙ r.1)
  op_widths_lem Or e r = (sym (e 0 (lit< tt)) ∙ r.0, sym (e 1 (lit< tt)) ∙ r.1)
  op_widths_lem Xor e r = (sym (e 0 (lit< tt)) ∙ r.0, sym (e 1 (lit< tt)) ∙ r.1)
  op_widths_lem Add e r = (sym (e 0 (lit< tt)) ∙ r.0, sym (e 1 (lit< tt)) ∙ r.1)
  op_widths_lem Subtract e r = (sym (e 0 (lit< tt)) ∙ r.0, sym (e 1 (lit< tt)) ∙ r.1)
  op_widths_lem Equal e r = (sym (e 0 (lit< tt)) ∙ r.0 ∙ e 1 (lit< tt), r.1)
  op_widths_lem Less e r = (sym (e 0 (lit< tt)) ∙ r.0 ∙ e 1 (lit< tt), r.1)
  op_widths_lem Choose e r = (sym (e 0 (lit< tt)) ∙ r.0, sym (e 1 (lit< tt)) ∙ r.1, sym (e 2 (lit< tt)) ∙ r.2)
  op_widths_lem (Part b) e r = omega (arith, e 0 (lit< tt))
  op_widths_lem Join e r = omega (arith, e 0 (lit< tt), e 1 (lit< tt))

  memory_new_widths : (ts ts' : List Table) (e : Element) (n : Memory) (m : ℕ) → ((p : ℕ) → p < arity (retabled n m) → ws p ≡ ws' p) → SizedAlike ts ts' e m → table_of e ≡ table_no n
      → MemoryWidths (table_in ts (table_no n)) n w ws → MemoryWidths (table_in ts' (table_no (retabled n m))) (retabled n m) w ws'
  memory_new_widths ts ts' e j m k z q r =
      (sym (k 0 (lit< tt)) ∙ r.0 ∙ sym (z.bits ∙ ap (λ (i : ℕ). (table_in ts i).bits) q), r.1 ∙ sym (z.wide ∙ ap (λ (i : ℕ). (table_in ts i).wide) q))

  pub widths_new : (ts ts' : List Table) (e : Element) (m c : ℕ) → ((p : ℕ) → p < operands (new_element e m c) → ws p ≡ ws' p) → (is_memory e ≡ true → SizedAlike ts ts' e m)
      → ElementWidths ts e w ws → ElementWidths ts' (new_element e m c) w ws'
  widths_new ts ts' Input m c k z r = tt
  widths_new ts ts' Output m c k z r = sym (k 0 (lit< tt)) ∙ r
  widths_new ts ts' (Register q) m c k z r = sym (k 0 (lit< tt)) ∙ r
  widths_new ts ts' (Async n) m c k z r = memory_new_widths ts ts' (Async n) n m k (z refl) refl r
  widths_new ts ts' (Clocked n q) m c k z r = memory_new_widths ts ts' (Clocked n q) n m k (z refl) refl r
  widths_new ts ts' (Gate o) m c k z r = op_widths_lem o k r

pub fits-new : (e : Element) (m c w : ℕ) → Fits e w → (is_memory e ≡ true → c < 2 ^ w) → Fits (new_element e m c) w
fits-new Input m c w h k = tt
fits-new Output m c w h k = tt
fits-new (Register r) m c w h k = h
fits-new (Async n) m c w h k = k refl
fits-new (Clocked n r) m c w h k = k refl
fits-new (Gate o) m c w h k = h

pub table-new : (ts : List Table) (e : Element) (m c : ℕ) → (is_memory e ≡ true → m < length ts) → HasTable ts (new_element e m c)
table-new ts Input m c h = tt
table-new ts Output m c h = tt
table-new ts (Register r) m c h = tt
table-new ts (Async n) m c h = subst (λ (i : ℕ). i < length ts) (sym (table-retabled n m)) (h refl)
table-new ts (Clocked n r) m c h = subst (λ (i : ℕ). i < length ts) (sym (table-retabled n m)) (h refl)
table-new ts (Gate o) m c h = tt

pub input_new : (e : Element) (m c : ℕ) → is_input (new_element e m c) ≡ is_input e
input_new Input m c = refl
input_new Output m c = refl
input_new (Register r) m c = refl
input_new (Async n) m c = refl
input_new (Clocked n r) m c = refl
input_new (Gate o) m c = refl

pub output_new : (e : Element) (m c : ℕ) → is_output (new_element e m c) ≡ is_output e
output_new Input m c = refl
output_new Output m c = refl
output_new (Register r) m c = refl
output_new (Async n) m c = refl
output_new (Clocked n r) m c = refl
output_new (Gate o) m c = refl

pub register_new : (e : Element) (m c : ℕ) → is_register (new_element e m c) ≡ is_register e
register_new Input m c = refl
register_new Output m c = refl
register_new (Register r) m c = refl
register_new (Async n) m c = refl
register_new (Clocked n r) m c = refl
register_new (Gate o) m c = refl

register_widths : (ts : List Table) (e : Element) (w : ℕ) (ws : ℕ → ℕ) → is_register e ≡ true → ElementWidths ts e w ws → ws 0 ≡ w
register_widths ts Input w ws h r = absurd (false≢true h)
register_widths ts Output w ws h r = r
register_widths ts (Register q) w ws h r = r
register_widths ts (Async m) w ws h r = absurd (false≢true h)
register_widths ts (Clocked m q) w ws h r = absurd (false≢true h)
register_widths ts (Gate o) w ws h r = absurd (false≢true h)

pub registers_fit : (N : Net) → WellFormed N → RegistersFit N
unfolding RegistersFit
registers_fit N wf v h e = register_widths N.tables (element_at N v) (width_at N v) (λ p. width_at N (source N v p)) e (wf.widths v h)
