-- The wires of a netlist in a row: wire k is the one to operand k % 3 of node k / 3, where there is one. Assumes nothing.
use Rattle.std.specs.Prelude.{◌≡◌, refl, Bool, true, false, cond, List, ℕ, ◌+◌, ◌-◌, ◌*◌, ◌/◌, ◌%◌, ◌≤◌, ◌<◌, get_or, ltb}
use Rattle.lists.specs.Lists.{one}
use Rattle.lists.specs.Sections.{section}
use Rattle.words.specs.Gates.{operands_of}
use Rattle.netlist.specs.declared.Element.{Element}
use Rattle.netlist.specs.declared.Element.TheVariants.{Input, Output, Register, Async, Clocked, Gate}
use Rattle.netlist.specs.Net.{Net, size, element_at, source}
use Rattle.netlist.specs.Checks.{WellFormed}
use Rattle.behaviour.specs.Run.{zero_word}
use Rattle.retiming.specs.Rewrite.{Timing, root, passed, own_here, memory_at, old_on, registers_on, count_on, copy_on}
use Rattle.retiming.specs.ModeLaws.{Suits}
use Rattle.wires.specs.Traced.{roots_in, passes_in, AllTraced}

-- what the rewriter knows of a netlist before it plans: 6 to 12 are passed, so that a timing suits it, and three lists hold the leads and where the wires come from
pub record Ready (N : Net) (f : Timing) (leads roots passes : List ℕ) : Type 0 where
  pub formed : WellFormed N
  pub suits : Suits N f
  pub leads_in : (v : ℕ) → v < size N → get_or leads v 0 ≡ f.lead v
  pub traced : AllTraced N roots passes

-- and they are sections of one area
abbrev pub Timed : Net → Timing → List ℕ → Type 0
Timed N f timing = Ready N f timing (roots_in timing) (passes_in timing)

-- the sections of the wires' area: the roots, the sources and the clocks of the wires, and the first wire of each ROM
abbrev pub ends_in : List ℕ → List ℕ
ends_in l = section 0 3072 l

abbrev pub froms_in : List ℕ → List ℕ
froms_in l = section 3072 3072 l

abbrev pub clocks_in : List ℕ → List ℕ
clocks_in l = section 6144 3072 l

abbrev pub heads_in : List ℕ → List ℕ
heads_in l = section 9216 1024 l

-- how many registers stand as nodes of their own on the wire from s to x, in the rewritten netlist
unfoldable pub count_from : Net → Timing → ℕ → ℕ → ℕ
count_from N f x s = ((passed N s + own_here N (root N s) + f.lead (root N s)) - f.lead x) - one (memory_at N (root N s))

pub count_from_lem : (N : Net) (f : Timing) (x p : ℕ) → count_on N f (zero_word N) x p ≡ count_from N f x (source N x p)
unfolding count_on registers_on old_on count_from
count_from_lem N f x p = refl

-- the clock at which a word is asked for, n counted from the origin: none before it, where every word is 0
unfoldable pub asked_clock : ℕ → ℕ → ℕ
asked_clock origin n = cond (ltb n origin) 65534 (n - origin)

-- how many wires end at a node: none at a register
abbrev pub wires_to : Element → ℕ
wires_to Input = 0
wires_to Output = 1
wires_to (Register r) = 0
wires_to (Async m) = 1
wires_to (Clocked m r) = 1
wires_to (Gate o) = operands_of o

-- the reader and the source of wire k
abbrev pub reader_of : ℕ → ℕ
reader_of k = k / 3

abbrev pub source_of : Net → ℕ → ℕ
source_of N k = source N (k / 3) (k % 3)

module _ (N : Net) (f : Timing) where
  -- and at a node that is left out
  unfoldable pub wire_count : ℕ → ℕ
  wire_count x = cond (f.keeps x) (wires_to (element_at N x)) 0

  -- there is a wire k
  unfoldable pub wire_at : ℕ → Bool
  wire_at k = ltb (k % 3) (wire_count (k / 3))

  -- the clock, counted from the origin, at which the register nearest its root, counted as one more, would have its reset word from
  unfoldable pub last_clock : ℕ → ℕ
  last_clock k = count_from N f (reader_of k) (source_of N k) + f.lead (reader_of k)

  module _ (ends froms clocks : List ℕ) where
    -- what three lists hold of a wire: its root, its source, and where the root is a ROM the clock of its reset word
    pub record Wired (k : ℕ) : Type 0 where
      pub end : get_or ends k 0 ≡ root N (source_of N k)
      pub from : get_or froms k 0 ≡ source_of N k
      pub early : last_clock k < 65534
      pub rom : memory_at N (root N (source_of N k)) ≡ true → get_or clocks k 0 ≡ asked_clock f.origin (last_clock k)
      pub other : memory_at N (root N (source_of N k)) ≡ false → get_or clocks k 0 ≡ 65535

    -- and where there is none
    pub record Unwired (k : ℕ) : Type 0 where
      pub end : get_or ends k 0 ≡ 65535
      pub never : get_or clocks k 0 ≡ 65535

    -- the first k are entered
    pub record WiredTo (k : ℕ) : Type 0 where
      pub wires : (j : ℕ) → j < k → wire_at j ≡ true → Wired j
      pub gaps : (j : ℕ) → j < k → wire_at j ≡ false → Unwired j
      pub ahead : (j : ℕ) → k ≤ j → j < 3072 → Unwired j

  -- and the area holds them
  abbrev pub Entered : List ℕ → ℕ → Type 0
  Entered wires k = WiredTo (ends_in wires) (froms_in wires) (clocks_in wires) k

  -- a list has the reset word that each wire's root needs for it
  abbrev pub Copied : List ℕ → Type 0
  Copied copied = (k : ℕ) → k < 3 * size N → wire_at k ≡ true → get_or copied k 0 ≡ copy_on N f (zero_word N) (k / 3) (k % 3)
