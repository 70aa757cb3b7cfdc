-- Laws of what specs/Code.antt defines. Assumes nothing.
use Rattle.std.specs.Prelude.{◌≡◌, refl, Bool, true, false, [], ◌∷◌, ℕ, ◌+◌, ◌-◌, ◌≤◌, ◌<◌, eqb}
use Rattle.std.proofs.Common.{sym, ap, ◌∙◌, inl, inr, ⊎_elim, arith, lit<, ne_eqb}
use Rattle.std.proofs.lemmas.Bool.{false≢true}
use Rattle.lists.specs.Paths.{pick}
use Rattle.lists.proofs.Paths.{arms_eq}
use Rattle.lists.proofs.ListsLaws.{all_get_d}
use Rattle.words.specs.declared.Op.{Op}
use Rattle.words.specs.declared.Op.TheVariants.{Constant, Not, And, Or, Xor, Add, Subtract, Equal, Less, Choose, Part, Join}
use Rattle.netlist.specs.declared.Element.{Element}
use Rattle.netlist.specs.declared.Element.TheVariants.{Input, Output, Register, Async, Clocked, Gate}
use Rattle.netlist.specs.NodeField.{plain_op, op_number}
use Rattle.netlist.proofs.NodeLaws.{plain_number}
use Rattle.netlist.specs.Net.{rom, operands, is_input, is_output, is_register, is_async, is_clocked, is_memory, table_of}
use Rattle.netlist.specs.Trim.{over_table}
use Rattle.netlist.proofs.TrimmedRules.{blind_operands}
use Rattle.circuit.specs.Code.{code_of, Coded, op_by, element_by, op_number_or, number_or, table_or}

few_ops : (o : Op) → op_number o < 12
few_ops (Constant v) = lit< tt
few_ops Not = lit< tt
few_ops And = lit< tt
few_ops Or = lit< tt
few_ops Xor = lit< tt
few_ops Add = lit< tt
few_ops Subtract = lit< tt
few_ops Equal = lit< tt
few_ops Less = lit< tt
few_ops Choose = lit< tt
few_ops (Part b) = lit< tt
few_ops Join = lit< tt

pub coded : (e : Element) → Coded (code_of e)
coded Input = inl (lit< tt)
coded Output = inl (lit< tt)
coded (Register r) = inl (lit< tt)
coded (Async m) = inl (lit< tt)
coded (Clocked m r) = inl (lit< tt)
coded (Gate o) = inr (omega arith, omega (arith, few_ops o))

pub code_below : {c : ℕ} → Coded c → c < 20
code_below h = ⊎_elim (λ l. omega arith) (λ l. l.1) h

-- a memory's table
pub rom-table : (e : Element) → is_memory e ≡ true → {k : ℕ} → k ≡ table_or k e → k ≡ table_of e
rom-table Input m q = absurd (false≢true m)
rom-table Output m q = absurd (false≢true m)
rom-table (Register r) m q = absurd (false≢true m)
rom-table (Async x) m q = q
rom-table (Clocked x r) m q = q
rom-table (Gate o) m q = absurd (false≢true m)

-- ---- it has that code, that number and that table

op_code : (k x : ℕ) → k < 12 → op_number (op_by k x) ≡ k
unfolding op_by
op_code k x h = arms_eq P _ _ k 0 (λ e. sym e) (λ a. arms_eq P _ _ k 10 (λ e. sym e) (λ b. plain_number k h a b))
  where
    P : Op → Type 0
    P o = op_number o ≡ k

-- by cases of a code
by_code : (P : Element → Type 0) (c x t : ℕ) → Coded c
    → (c ≡ 0 → P Input) → (c ≡ 1 → P Output) → (c ≡ 2 → P (Register x)) → (c ≡ 3 → P (Async (rom t))) → (c ≡ 4 → P (Clocked (rom t) x))
    → (8 ≤ c → c - 8 < 12 → P (Gate (op_by (c - 8) x))) → P (element_by c x t)
unfolding element_by
by_code P c x t h p₀ p₁ p₂ p₃ p₄ p₈ =
    arms_eq P _ _ c 0 p₀ (λ a. arms_eq P _ _ c 1 p₁ (λ b. arms_eq P _ _ c 2 p₂ (λ d. arms_eq P _ _ c 3 p₃ (λ f. arms_eq P _ _ c 4 p₄ (λ g.
    ⊎_elim (λ l. absurd (omega arith)) (λ (l, m). p₈ l (omega arith)) h)))))

pub code_by : (c x t : ℕ) → Coded c → code_of (element_by c x t) ≡ c
code_by c x t h = by_code (λ e. code_of e ≡ c) c x t h sym sym sym sym sym (λ l m. omega (arith, op_code (c - 8) x m))

plain_keeps : (k x : ℕ) → k < 12 → x ≡ op_number_or x (plain_op k)
plain_keeps k x h = all_get_d (λ (o : Op). x ≡ op_number_or x o) (Not ∷ Not ∷ And ∷ Or ∷ Xor ∷ Add ∷ Subtract ∷ Equal ∷ Less ∷ Choose ∷ Join ∷ Join ∷ []) k Join
    (refl, (refl, (refl, (refl, (refl, (refl, (refl, (refl, (refl, (refl, (refl, (refl, tt)))))))))))) h

op_number_lem : (k x : ℕ) → k < 12 → x ≡ op_number_or x (op_by k x)
unfolding op_by
op_number_lem k x h = arms_eq P _ _ k 0 (λ e. refl) (λ a. arms_eq P _ _ k 10 (λ e. refl) (λ b. plain_keeps k x h))
  where
    P : Op → Type 0
    P o = x ≡ op_number_or x o

pub number_by : (c x t : ℕ) → Coded c → x ≡ number_or x (element_by c x t)
number_by c x t h = by_code (λ e. x ≡ number_or x e) c x t h (λ e. refl) (λ e. refl) (λ e. refl) (λ e. refl) (λ e. refl) (λ l m. op_number_lem (c - 8) x m)

pub table_by : (c x t : ℕ) → Coded c → t ≡ table_or t (element_by c x t)
table_by c x t h = by_code (λ e. t ≡ table_or t e) c x t h (λ e. refl) (λ e. refl) (λ e. refl) (λ e. refl) (λ e. refl) (λ l m. refl)

-- and the words of an element name it, whatever stands where it has none
pub element_named : (x t : ℕ) (e : Element) → element_by (code_of e) (number_or x e) (table_or t e) ≡ e
unfolding element_by pick op_by
element_named x t Input = refl
element_named x t Output = refl
element_named x t (Register r) = refl
element_named x t (Async m) = refl
element_named x t (Clocked m r) = refl
element_named x t (Gate (Constant v)) = refl
element_named x t (Gate Not) = refl
element_named x t (Gate And) = refl
element_named x t (Gate Or) = refl
element_named x t (Gate Xor) = refl
element_named x t (Gate Add) = refl
element_named x t (Gate Subtract) = refl
element_named x t (Gate Equal) = refl
element_named x t (Gate Less) = refl
element_named x t (Gate Choose) = refl
element_named x t (Gate (Part b)) = refl
element_named x t (Gate Join) = refl

-- ---- another table number gives the element over that table

pub over_by : (c x t k : ℕ) → element_by c x k ≡ over_table k (element_by c x t)
unfolding element_by pick
over_by c x t k = go (eqb c 0) (eqb c 1) (eqb c 2) (eqb c 3) (eqb c 4) (op_by (c - 8) x)
  where
    by : ℕ → Bool → Bool → Bool → Bool → Bool → Op → Element
    by m b₀ b₁ b₂ b₃ b₄ o = pick b₀ Input (pick b₁ Output (pick b₂ (Register x) (pick b₃ (Async (rom m)) (pick b₄ (Clocked (rom m) x) (Gate o)))))

    go : (b₀ b₁ b₂ b₃ b₄ : Bool) (o : Op) → by k b₀ b₁ b₂ b₃ b₄ o ≡ over_table k (by t b₀ b₁ b₂ b₃ b₄ o)
    go true b₁ b₂ b₃ b₄ o = refl
    go false true b₂ b₃ b₄ o = refl
    go false false true b₃ b₄ o = refl
    go false false false true b₄ o = refl
    go false false false false true o = refl
    go false false false false false o = refl

-- which has as many operands
pub operands_by : (c x t k : ℕ) → operands (element_by c x k) ≡ operands (element_by c x t)
operands_by c x t k = ap operands (over_by c x t k) ∙ blind_operands.same k (element_by c x t)

-- ---- what a code tells of its element

pub code_input : (e : Element) → eqb (code_of e) 0 ≡ is_input e
code_input Input = refl
code_input Output = refl
code_input (Register r) = refl
code_input (Async m) = refl
code_input (Clocked m r) = refl
code_input (Gate o) = ne_eqb (8 + op_number o) 0 (λ q. omega arith)

pub code_output : (e : Element) → eqb (code_of e) 1 ≡ is_output e
code_output Input = refl
code_output Output = refl
code_output (Register r) = refl
code_output (Async m) = refl
code_output (Clocked m r) = refl
code_output (Gate o) = ne_eqb (8 + op_number o) 1 (λ q. omega arith)

pub code_register : (e : Element) → eqb (code_of e) 2 ≡ is_register e
code_register Input = refl
code_register Output = refl
code_register (Register r) = refl
code_register (Async m) = refl
code_register (Clocked m r) = refl
code_register (Gate o) = ne_eqb (8 + op_number o) 2 (λ q. omega arith)

pub code_async : (e : Element) → eqb (code_of e) 3 ≡ is_async e
code_async Input = refl
code_async Output = refl
code_async (Register r) = refl
code_async (Async m) = refl
code_async (Clocked m r) = refl
code_async (Gate o) = ne_eqb (8 + op_number o) 3 (λ q. omega arith)

pub code_clocked : (e : Element) → eqb (code_of e) 4 ≡ is_clocked e
code_clocked Input = refl
code_clocked Output = refl
code_clocked (Register r) = refl
code_clocked (Async m) = refl
code_clocked (Clocked m r) = refl
code_clocked (Gate o) = ne_eqb (8 + op_number o) 4 (λ q. omega arith)
