-- What node v gives and what it holds next, by its code. Assumes nothing.
use mathlib.Core.Path.{◌≡◌, sym, ap, ◌∙◌}
use mathlib.Core.Bool.{true, false}
use Rattle.std.proofs.Common.{true≢false}
use mathlib.Core.List.{List}
use Prim.Native.Nat.{ℕ, ◌^◌, ◌≤◌, ◌<◌}
use native.Mathlib.Omega.{arith}
use lib.ListN.{get_or}
use lib.Pow.{pow_mono}
use borrow.Author.Tests.{ne_eqb}
use Rattle.words.specs.declared.Op.{Op}
use Rattle.gates.specs.Gate.{gate_word}
use Rattle.netlist.specs.Net.{Net, size, element_at, width_at, source, is_register, is_memory, contents_at, Sourced}
use Rattle.netlist.specs.Checks.{WellFormed}
use Rattle.netlist.specs.declared.Element.{Element}
use Rattle.netlist.specs.declared.Element.TheVariants.{Input, Output, Register, Async, Clocked, Gate}
use Rattle.lists.proofs.BelowLaws.{eqb-true, eqb_differ}
use Rattle.circuit.specs.Code.{code_of}
use Rattle.circuit.proofs.CodeLaws.{code_register}
use Rattle.evaluate.specs.Rows.{row_test}
use Rattle.evaluate.specs.Clock.{loaded, node_word, OperandsFit}
use Rattle.evaluate.specs.Next.{next_word, WordsFit, holder_reads}
use Rattle.evaluate.specs.Coded.{output_gives, async_memory, async_gives, gate-gives, gate-fits, register_holds, rom_holds}
use Rattle.evaluate.specs.declared.Row.TheVariants.{State}

-- what is not loaded and has a code below a gate's is an output port or an asynchronous ROM
pub rom_code : {k : ℕ} → (e : Element) → k ≡ code_of e → loaded e ≡ false → (k ≡ 1 → ⊥) → k < 8 → k ≡ 3
rom_code Input q l a h = absurd (true≢false l)
rom_code Output q l a h = absurd (a q)
rom_code (Register r) q l a h = absurd (true≢false l)
rom_code (Async m) q l a h = q
rom_code (Clocked m r) q l a h = absurd (true≢false l)
rom_code (Gate o) q l a h = absurd (omega (arith, q, h))

-- ---- node v in a clock: what is read of it and for it

-- its width and that of its second source, and where its sources' words stand
pub record Gathered (N : Net) (v w u x y z : ℕ) : Type 0 where
  pub width : w ≡ width_at N v
  pub below : u ≡ width_at N y
  pub first : x ≡ source N v 0
  pub second : y ≡ source N v 1
  pub third : z ≡ source N v 2

module _ {N : Net} {v w u x y z : ℕ} (g : Gathered N v w u x y z) (ws : List ℕ) where
  abbrev wide : ℕ → ℕ
  wide p = width_at N (source N v p)

  abbrev read : ℕ → ℕ
  read p = get_or ws (source N v p) 0

  read_first : get_or ws x 0 ≡ read 0
  read_first = ap (λ (j : ℕ). get_or ws j 0) g.first

  pub node_output : code_of (element_at N v) ≡ 1 → get_or ws x 0 ≡ node_word N ws v
  unfolding node_word
  node_output k = read_first ∙ output_gives (contents_at N v) (width_at N v) wide (get_or ws v 0) read (element_at N v) k

  -- an asynchronous ROM
  module _ (k : code_of (element_at N v) ≡ 3) where
    pub async_asks : OperandsFit N ws v → (is_memory (element_at N v) ≡ true) × (get_or ws x 0 < 2 ^ wide 0)
    async_asks fit = let m = async_memory (element_at N v) k in (m.0, rw read_first (fit 0 (omega (arith, m.1))))

    pub node_async : {r : ℕ} → r ≡ get_or (contents_at N v) (get_or ws x 0) 0 → r ≡ node_word N ws v
    unfolding node_word
    node_async e = e ∙ ap (λ (a : ℕ). get_or (contents_at N v) a 0) read_first ∙ async_gives (contents_at N v) (width_at N v) wide (get_or ws v 0) read (element_at N v) k

  -- a gate
  module _ {o : Op} (q : Gate o ≡ element_at N v) where
    gathered_gate : gate_word o w u (get_or ws x 0) (get_or ws y 0) (get_or ws z 0) ≡ node_word N ws v
    unfolding node_word
    gathered_gate =
        (λ i. gate_word o (g.width i) ((g.below ∙ ap (width_at N) g.second) i) (get_or ws (g.first i) 0) (get_or ws (g.second i) 0) (get_or ws (g.third i) 0))
        ∙ gate-gives (contents_at N v) (width_at N v) wide (get_or ws v 0) read q

    gate_small : WellFormed N → v < size N → OperandsFit N ws v → node_word N ws v < 65536
    unfolding node_word
    gate_small wf h fit =
        let most : 2 ^ width_at N v ≤ 2 ^ 16 = pow_mono (wf.fields.width_high v h) in
        omega (arith, gate-fits (contents_at N v) (width_at N v) wide (get_or ws v 0) read N.tables q (wf.widths v h) (wf.fields.word_fits v h) fit)

    pub gate_asks : WellFormed N → v < size N → y < size N → OperandsFit N ws v → (w ≤ 16) × (u ≤ 16) × (gate_word o w u (get_or ws x 0) (get_or ws y 0) (get_or ws z 0) < 65536)
    gate_asks wf h l fit = (
      omega (arith, g.width, wf.fields.width_high v h),
      omega (arith, g.below, wf.fields.width_high y l),
      omega (arith, gathered_gate, gate_small wf h fit),
    )

    pub node_gate : {r : ℕ} → r ≡ gate_word o w u (get_or ws x 0) (get_or ws y 0) (get_or ws z 0) → r ≡ node_word N ws v
    node_gate e = e ∙ gathered_gate

-- ---- node v after it, which holds a word; x is the word that it reads

module _ (N : Net) (ws : List ℕ) (v : ℕ) {x u : ℕ} (on : row_test State N v ≡ true) (e : x ≡ get_or ws u 0) (q : u ≡ source N v 0) where
  reads : x ≡ get_or ws (source N v 0) 0
  reads = e ∙ ap (λ (j : ℕ). get_or ws j 0) q

  pub next_address : WellFormed N → v < size N → WordsFit N ws → x < 2 ^ width_at N (source N v 0)
  unfolding Sourced
  next_address wf l fit = rw reads (fit (source N v 0) (wf.sourced v 0 l (holder_reads (element_at N v) on)))

  pub next_register : is_register (element_at N v) ≡ true → x ≡ next_word N ws v
  next_register h = reads ∙ register_holds (contents_at N v) (λ p. get_or ws (source N v p) 0) (element_at N v) on (eqb-true (code_register (element_at N v) ∙ h))

  module _ (not : is_register (element_at N v) ≡ false) where
    holds : (is_memory (element_at N v) ≡ true) × (get_or (contents_at N v) (get_or ws (source N v 0) 0) 0 ≡ next_word N ws v)
    holds = rom_holds (contents_at N v) (λ p. get_or ws (source N v p) 0) (element_at N v) on (eqb_differ (code_register (element_at N v) ∙ not))

    pub next_memory : is_memory (element_at N v) ≡ true
    next_memory = holds.0

    pub next_rom : {r : ℕ} → r ≡ get_or (contents_at N v) x 0 → r ≡ next_word N ws v
    next_rom i = i ∙ ap (λ (j : ℕ). get_or (contents_at N v) j 0) reads ∙ holds.1

-- the same, by the code, of one that holds a word and is no register
module _ (N : Net) (ws : List ℕ) (v : ℕ) {c x u : ℕ} (k : c ≡ code_of (element_at N v)) (on : row_test State N v ≡ true) (e : x ≡ get_or ws u 0) (q : u ≡ source N v 0) (not : c ≡ 2 → ⊥) where
  pub next_asks : WellFormed N → v < size N → WordsFit N ws → (is_memory (element_at N v) ≡ true) × (x < 2 ^ width_at N (source N v 0))
  next_asks wf l fit = (next_memory N ws v on e q (sym (code_register (element_at N v)) ∙ ne_eqb (code_of (element_at N v)) 2 (λ h. not (k ∙ h))), next_address N ws v on e q wf l fit)
