-- What an element gives and what it holds next, by its code, over plain values. Assumes nothing.
use Rattle.std.specs.Prelude.{◌≡◌, refl, ◌⊎◌, true, false, List, ℕ, ◌-◌, ◌^◌, ◌≤◌, ◌<◌, length}
use Rattle.std.proofs.Common.{sym, subst, ◌∙◌, inl, inr, true≢false, arith}
use Rattle.std.proofs.Math.Path.{ap, ap₂}
use Rattle.std.proofs.lemmas.Bool.{false≢true}
use Rattle.std.proofs.Math.ListN.{get_or}
use Rattle.lists.specs.Paths.{pick}
use Rattle.lists.proofs.Paths.{off_eq}
use Rattle.words.specs.declared.Op.{Op}
use Rattle.words.specs.declared.Op.TheVariants.{Constant, Part}
use Rattle.gates.specs.Gate.{gate_word, gate_word-operate}
use Rattle.netlist.specs.Net.{Table, no_table, Net, size, element_at, width_at, source, within_clock, holds_word, is_memory, table_of, spelled, contents_in, contents_at}
use Rattle.netlist.specs.Checks.{ElementWidths, Fits, HasTable, WellFormed}
use Rattle.netlist.specs.NodeField.{plain_op}
use Rattle.netlist.specs.declared.Element.{Element}
use Rattle.netlist.specs.declared.Element.TheVariants.{Input, Output, Register, Async, Clocked, Gate}
use Rattle.circuit.specs.Code.{code_of, op_by, element_by, number_or, table_or}
use Rattle.circuit.proofs.CodeLaws.{element_named}
use Rattle.behaviour.specs.Run.{gives_now, holds_next}
use Rattle.behaviour.proofs.Fits.{operate-fits}
use Rattle.evaluate.specs.Clock.{loaded}

-- ---- the codes

module _ {k : ℕ} where
  own_code : (k ≡ 0) ⊎ (k ≡ 2) ⊎ (k ≡ 4) → (k ≡ 1 → ⊥) × (k ≡ 3 → ⊥) × (k < 8)
  own_code (inl e) = (λ q. omega arith, λ q. omega arith, omega arith)
  own_code (inr (inl e)) = (λ q. omega arith, λ q. omega arith, omega arith)
  own_code (inr (inr e)) = (λ q. omega arith, λ q. omega arith, omega arith)

  pub loaded_code : (k ≡ 0) ⊎ (k ≡ 2) ⊎ (k ≡ 4) → (e : Element) → k ≡ code_of e → true ≡ loaded e
  loaded_code a Input q = refl
  loaded_code a Output q = absurd ((own_code a).0 q)
  loaded_code a (Register r) q = refl
  loaded_code a (Async m) q = absurd ((own_code a).1 q)
  loaded_code a (Clocked m r) q = refl
  loaded_code a (Gate o) q = absurd (omega (arith, (own_code a).2))

  pub other_code : ((k ≡ 0) ⊎ (k ≡ 2) ⊎ (k ≡ 4) → ⊥) → (e : Element) → k ≡ code_of e → false ≡ loaded e
  other_code a Input q = absurd (a (inl q))
  other_code a Output q = refl
  other_code a (Register r) q = absurd (a (inr (inl q)))
  other_code a (Async m) q = refl
  other_code a (Clocked m r) q = absurd (a (inr (inr q)))
  other_code a (Gate o) q = refl

  -- what is not loaded is an output port, an asynchronous ROM or a gate
  pub gate_code : (e : Element) → k ≡ code_of e → loaded e ≡ false → (k ≡ 1 → ⊥) → (k ≡ 3 → ⊥) → 8 ≤ k
  gate_code Input q l a b = absurd (true≢false l)
  gate_code Output q l a b = absurd (a q)
  gate_code (Register r) q l a b = absurd (true≢false l)
  gate_code (Async m) q l a b = absurd (b q)
  gate_code (Clocked m r) q l a b = absurd (true≢false l)
  gate_code (Gate o) q l a b = omega arith

-- ---- a gate by its code and its number

module _ (e : Element) {c x : ℕ} (k : c ≡ code_of e) (q : x ≡ number_or x e) where
  pub named : element_by c x (table_or 0 e) ≡ e
  named = ap₂ (λ (c x : ℕ). element_by c x (table_or 0 e)) k q ∙ element_named x 0 e

  pub constant_told : c ≡ 8 → Gate (Constant x) ≡ e
  unfolding element_by op_by pick
  constant_told h = ap (λ (c : ℕ). element_by c x (table_or 0 e)) (sym h) ∙ named

  pub part_told : c ≡ 18 → Gate (Part x) ≡ e
  unfolding element_by op_by pick
  part_told h = ap (λ (c : ℕ). element_by c x (table_or 0 e)) (sym h) ∙ named

  pub plain_told : 8 ≤ c → (c ≡ 8 → ⊥) → (c ≡ 18 → ⊥) → {o : Op} → o ≡ plain_op (c - 8) → Gate o ≡ e
  unfolding element_by op_by
  plain_told h a b r =
      off_eq _ _ c 0 (λ d. omega arith) (off_eq _ _ c 1 (λ d. omega arith) (off_eq _ _ c 2 (λ d. omega arith) (off_eq _ _ c 3 (λ d. omega arith) (off_eq _ _ c 4 (λ d. omega arith)
      (ap Gate (off_eq _ _ (c - 8) 0 (λ d. a (omega arith)) (off_eq _ _ (c - 8) 10 (λ d. b (omega arith)) r)))))))
      ∙ named

-- ---- an element

module _ (M : List ℕ) (w : ℕ) (ws : ℕ → ℕ) (own : ℕ) (d : ℕ → ℕ) where
  abbrev gives : Element → ℕ
  gives e = gives_now M e w ws own own d

  pub output_gives : (e : Element) → code_of e ≡ 1 → d 0 ≡ gives e
  output_gives Input h = absurd (omega arith)
  output_gives Output h = refl
  output_gives (Register r) h = absurd (omega arith)
  output_gives (Async m) h = absurd (omega arith)
  output_gives (Clocked m r) h = absurd (omega arith)
  output_gives (Gate o) h = absurd (omega arith)

  pub async_gives : (e : Element) → code_of e ≡ 3 → get_or M (d 0) 0 ≡ gives e
  async_gives Input h = absurd (omega arith)
  async_gives Output h = absurd (omega arith)
  async_gives (Register r) h = absurd (omega arith)
  async_gives (Async m) h = refl
  async_gives (Clocked m r) h = absurd (omega arith)
  async_gives (Gate o) h = absurd (omega arith)

  pub gate-gives : {o : Op} {e : Element} → Gate o ≡ e → gate_word o w (ws 1) (d 0) (d 1) (d 2) ≡ gives e
  gate-gives {o} q = gate_word-operate w ws d o ∙ ap gives q

  pub gate-fits : (ts : List Table) {o : Op} {e : Element} → Gate o ≡ e → ElementWidths ts e w ws → Fits e w → ((p : ℕ) → p < within_clock e → d p < 2 ^ ws p) → gives e < 2 ^ w
  gate-fits ts {o} q = subst (λ (x : Element). ElementWidths ts x w ws → Fits x w → ((p : ℕ) → p < within_clock x → d p < 2 ^ ws p) → gives x < 2 ^ w) q (operate-fits w ws d o)

-- an asynchronous ROM is a memory with its address within the clock
pub async_memory : (e : Element) → code_of e ≡ 3 → (is_memory e ≡ true) × (within_clock e ≡ 1)
async_memory Input h = absurd (omega arith)
async_memory Output h = absurd (omega arith)
async_memory (Register r) h = absurd (omega arith)
async_memory (Async m) h = (refl, refl)
async_memory (Clocked m r) h = absurd (omega arith)
async_memory (Gate o) h = absurd (omega arith)

-- a memory's table is there, and its address has as many bits
memory_table : (ts : List Table) (w : ℕ) (ws : ℕ → ℕ) (e : Element) {t : ℕ} → is_memory e ≡ true → ElementWidths ts e w ws → HasTable ts e → t ≡ table_or t e
    → (t ≡ table_of e) × (table_of e < length ts) × (ws 0 ≡ (get_or ts (table_of e) no_table).bits)
memory_table ts w ws Input h r l q = absurd (false≢true h)
memory_table ts w ws Output h r l q = absurd (false≢true h)
memory_table ts w ws (Register k) h r l q = absurd (false≢true h)
memory_table ts w ws (Async m) h r l q = (q, l, r.0)
memory_table ts w ws (Clocked m k) h r l q = (q, l, r.0)
memory_table ts w ws (Gate o) h r l q = absurd (false≢true h)

module _ (M : List ℕ) (d : ℕ → ℕ) where
  pub register_holds : (e : Element) → holds_word e ≡ true → code_of e ≡ 2 → d 0 ≡ holds_next M e d
  register_holds Input h k = absurd (false≢true h)
  register_holds Output h k = absurd (false≢true h)
  register_holds (Register r) h k = refl
  register_holds (Async m) h k = absurd (false≢true h)
  register_holds (Clocked m r) h k = absurd (omega arith)
  register_holds (Gate o) h k = absurd (false≢true h)

  pub rom_holds : (e : Element) → holds_word e ≡ true → (code_of e ≡ 2 → ⊥) → (is_memory e ≡ true) × (get_or M (d 0) 0 ≡ holds_next M e d)
  rom_holds Input h k = absurd (false≢true h)
  rom_holds Output h k = absurd (false≢true h)
  rom_holds (Register r) h k = absurd (k refl)
  rom_holds (Async m) h k = absurd (false≢true h)
  rom_holds (Clocked m r) h k = (refl, refl)
  rom_holds (Gate o) h k = absurd (false≢true h)

-- ---- the table of node v, which is a memory

module _ (N : Net) (v : ℕ) (wf : WellFormed N) (h : v < size N) (m : is_memory (element_at N v) ≡ true) {t : ℕ} (q : t ≡ table_or t (element_at N v)) where
  told : (t ≡ table_of (element_at N v)) × (table_of (element_at N v) < length N.tables) × (width_at N (source N v 0) ≡ (get_or N.tables (table_of (element_at N v)) no_table).bits)
  told = memory_table N.tables (width_at N v) (λ p. width_at N (source N v p)) (element_at N v) m (wf.widths v h) (wf.has_table v h) q

  module _ {a k : ℕ} (same : a ≡ k) where
    pub memory_asks : k < 2 ^ width_at N (source N v 0) → (t < length N.tables) × (a < 2 ^ (get_or N.tables t no_table).bits)
    memory_asks low = (
      omega (arith, told.0, told.1),
      subst (λ (j : ℕ). a < 2 ^ (get_or N.tables j no_table).bits) (sym told.0) (subst (λ (j : ℕ). a < 2 ^ j) told.2 (rw same low)),
    )

    pub memory_gives : {r : ℕ} → r ≡ get_or (spelled (get_or N.tables t no_table)) a 0 → r ≡ get_or (contents_at N v) k 0
    unfolding contents_at contents_in
    memory_gives e = e ∙ ap₂ (λ (j b : ℕ). get_or (spelled (get_or N.tables j no_table)) b 0) told.0 same

-- the lowest bit of a part is a bit of its source
pub part_low : (N : Net) (v : ℕ) {x : ℕ} → WellFormed N → v < size N → source N v 0 < size N → Gate (Part x) ≡ element_at N v → x < 256
part_low N v wf h l q =
    omega (arith, subst (λ (e : Element). ElementWidths N.tables e (width_at N v) (λ p. width_at N (source N v p))) (sym q) (wf.widths v h), wf.fields.width_high (source N v 0) l)
