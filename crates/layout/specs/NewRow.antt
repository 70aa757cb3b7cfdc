-- The rows of the new nodes. In that of an old node a ROM's code becomes that of a clocked one, and its number the reset word. Assumes nothing.
use Rattle.std.specs.Prelude.{◌≡◌, refl, cond, List, [], ◌∷◌, ℕ, ◌+◌, ◌<◌}
use Rattle.std.proofs.Common.{sym, subst, ◌∙◌, arith}
use Rattle.lists.specs.Lists.{one}
use Rattle.words.specs.declared.Op.TheVariants.{Constant, Choose}
use Rattle.netlist.specs.declared.Element.{Element}
use Rattle.netlist.specs.declared.Element.TheVariants.{Input, Output, Register, Async, Clocked, Gate}
use Rattle.netlist.specs.declared.Node.{Node}
use Rattle.netlist.specs.Net.{Net, size, element_at, width_at, operands, table_of, is_async, is_memory}
use Rattle.circuit.specs.declared.Row.{Row}
use Rattle.circuit.specs.Code.{code_of, number_or, table_or}
use Rattle.circuit.specs.Circuit.{row_node, net_of, Fits, Circuit}
use Rattle.circuit.proofs.RowLaws.{row_fits, row_node_lem, part_small}
use Rattle.retiming.specs.Rewrite.{new_element}

module _ (m c : ℕ) where
  pub new_code : (e : Element) → code_of (new_element e m c) ≡ code_of e + one (is_async e)
  new_code Input = refl
  new_code Output = refl
  new_code (Register r) = refl
  new_code (Async k) = refl
  new_code (Clocked k r) = refl
  new_code (Gate o) = omega arith

  pub new-operands : (e : Element) → operands (new_element e m c) ≡ operands e
  new-operands Input = refl
  new-operands Output = refl
  new-operands (Register r) = refl
  new-operands (Async k) = refl
  new-operands (Clocked k r) = refl
  new-operands (Gate o) = refl

  pub new_number : (e : Element) {k : ℕ} → k ≡ number_or k e → cond (is_memory e) c k ≡ number_or (cond (is_memory e) c k) (new_element e m c)
  new_number Input h = refl
  new_number Output h = refl
  new_number (Register r) h = h
  new_number (Async k) h = refl
  new_number (Clocked k r) h = refl
  new_number (Gate o) h = h

pub new-table : (e : Element) (c : ℕ) {t : ℕ} → t ≡ table_or t e → t ≡ table_or t (new_element e (table_of e) c)
new-table Input c h = refl
new-table Output c h = refl
new-table (Register r) c h = refl
new-table (Async k) c h = h
new-table (Clocked k r) c h = h
new-table (Gate o) c h = refl

-- ---- the row of an element, and of its node

-- old node u made new, over what it reads
abbrev pub entry_node : Net → ℕ → ℕ → List ℕ → Node
entry_node N u word xs = record { element = new_element (element_at N u) (table_of (element_at N u)) word; width = width_at N u; sources = xs }

-- a register, a constant, and a gate that chooses, of a width
abbrev pub register_node : ℕ → ℕ → ℕ → Node
register_node w word from = record { element = Register word; width = w; sources = from ∷ 0 ∷ 0 ∷ [] }

abbrev pub constant_node : ℕ → ℕ → Node
constant_node w value = record { element = Gate (Constant value); width = w; sources = 0 ∷ 0 ∷ 0 ∷ [] }

abbrev pub choose_node : ℕ → List ℕ → Node
choose_node w xs = record { element = Gate Choose; width = w; sources = xs }

abbrev pub RowOf : Row → Node → Type 0
RowOf r x = Fits r × (row_node r ≡ x)

pub row_as : {r : Row} {x y : Node} → RowOf r x → x ≡ y → RowOf r y
row_as h e = (h.0, h.1 ∙ e)

-- a part's lowest bit is a byte, in what a circuit shows
pub part_byte : (s l : List ℕ) → Circuit s l → {N : Net} → net_of s l ≡ N → (u : ℕ) → u < size N → {k : ℕ} → k ≡ number_or k (element_at N u) → code_of (element_at N u) ≡ 18 → k < 256
part_byte s l o e u h {k} number =
    subst (λ (M : Net). u < size M → k ≡ number_or k (element_at M u) → code_of (element_at M u) ≡ 18 → k < 256) e (λ h number. part_small s l o u h refl number) h number

module _ (N : Net) (u word : ℕ) (xs : List ℕ) where
  abbrev e : Element
  e = element_at N u

  pub entry_row : {c rom k k' n t w : ℕ} → c ≡ code_of e → rom ≡ one (is_async e) → n ≡ operands e → k ≡ number_or k e → (code_of e ≡ 18 → k < 256) → k' ≡ cond (is_memory e) word k
      → t ≡ table_or t e → t < 256 → w ≡ width_at N u → w < 256
      → RowOf (record { code = c + rom; width = w; count = n; sources = xs; number = k'; table = t }) (entry_node N u word xs)
  entry_row {c} {rom} {k} {k'} {n} {t} {w} code r count number byte held table few width narrow =
      let x = entry_node N u word xs in
      let f : c + rom ≡ code_of x.element = omega (arith, code, r, new_code m word e) in
      let g = count ∙ sym (new-operands m word e) in
      let d = new-table e word table in
      (row_fits x k' t width refl f g held_is d narrow few (λ z. lowest (f ∙ z)), row_node_lem x k' t width refl f g held_is d)
    where
      m : ℕ
      m = table_of e

      held_is : k' ≡ number_or k' (new_element e m word)
      held_is = subst (λ (z : ℕ). z ≡ number_or z (new_element e m word)) (sym held) (new_number m word e number)

      -- a part is no ROM: its number is the old one
      part_number : (x : Element) → code_of x + one (is_async x) ≡ 18 → (cond (is_memory x) word k ≡ k) × (code_of x ≡ 18)
      part_number Input g = absurd (omega arith)
      part_number Output g = absurd (omega arith)
      part_number (Register z) g = absurd (omega arith)
      part_number (Async z) g = absurd (omega arith)
      part_number (Clocked z y) g = absurd (omega arith)
      part_number (Gate z) g = (refl, omega arith)

      lowest : c + rom ≡ 18 → k' < 256
      lowest g =
          let p = part_number e (omega (arith, code, r)) in
          omega (arith, held, p.0, byte p.1)

-- the rows of nodes that have no table, and are no parts
module _ {w : ℕ} (h : w < 256) where
  plain_row : (x : Node) {c n k : ℕ} → w ≡ x.width → c ≡ code_of x.element → n ≡ operands x.element → k ≡ number_or 0 x.element → 0 ≡ table_or 0 x.element
      → (code_of x.element ≡ 18 → ⊥)
      → RowOf (record { code = c; width = w; count = n; sources = x.sources; number = k; table = 0 }) x
  plain_row x width code count number table other =
      (row_fits x 0 0 width refl code count number table h (omega arith) (λ g. absurd (other g)), row_node_lem x 0 0 width refl code count number table)

  pub register_row : (word from : ℕ) → RowOf (record { code = 2; width = w; count = 1; sources = from ∷ 0 ∷ 0 ∷ []; number = word; table = 0 }) (register_node w word from)
  register_row word from = plain_row (register_node w word from) refl refl refl refl refl (λ g. omega arith)

  pub constant_row : (value : ℕ) → RowOf (record { code = 8; width = w; count = 0; sources = 0 ∷ 0 ∷ 0 ∷ []; number = value; table = 0 }) (constant_node w value)
  constant_row value = plain_row (constant_node w value) refl refl refl refl refl (λ g. omega arith)

  pub choose_row : (xs : List ℕ) → RowOf (record { code = 17; width = w; count = 3; sources = xs; number = 0; table = 0 }) (choose_node w xs)
  choose_row xs = plain_row (choose_node w xs) refl refl refl refl refl (λ g. omega arith)
