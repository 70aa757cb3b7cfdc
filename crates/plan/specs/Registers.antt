-- The registers of the rewritten netlist, wire by wire, and what each reader reads, as four lists hold them. Assumes nothing.
use Rattle.std.specs.Prelude.{◌≡◌, true, cond, List, [], ℕ, zero, suc, ◌+◌, ◌-◌, ◌*◌, ◌/◌, ◌%◌, ◌≤◌, ◌<◌, length, get_or, set, ltb}
use Rattle.lists.specs.Lists.{below, concat_map}
use Rattle.netlist.specs.Net.{Net, size, element_at, source, operands}
use Rattle.behaviour.specs.Run.{zero_word}
use Rattle.retiming.specs.Rewrite.{Timing, Place, Entry, Reg, root, regs_on, entry_places, number_of, along}
use Rattle.retiming.specs.Layout.{no_place}
use Rattle.wiring.specs.Wiring.{Ready, asked_clock, source_of, wire_at, Copied}
use Rattle.plan.specs.Areas.{owners_in, words_in, late_in, firsts_in, sources_in}
use Rattle.plan.specs.Entries.{Stored, Firsts}

-- what register t of a wire reads, from the source on: the source, or the register before it
abbrev pub behind : ℕ → ℕ → ℕ → ℕ
behind from start zero = from
behind from start (suc t) = start + t

-- a register is put in the plan's area, where there is room for it, and what the other sections hold stays
pub record RegisterPut (old new : List ℕ) (r s clock before : ℕ) : Type 0 where
  pub owners : owners_in new ≡ set (owners_in old) r s
  pub late : late_in new ≡ set (late_in old) r clock
  pub sources : sources_in new ≡ set (sources_in old) (3 * r) before
  pub words : words_in new ≡ words_in old
  pub firsts : firsts_in new ≡ firsts_in old

-- of the registers of a wire with this source and lead of its reader, counted from an origin, which stand from `start` on, the first are put: so many are done.
-- What is before them stays, and no clock after them is wanted
pub record PutsTo (s from lead origin count start done : ℕ) (owners late sources owners' late' sources' : List ℕ) : Type 0 where
  pub owner : (t : ℕ) → t < done → start + t < 1024 → get_or owners' (start + t) 0 ≡ s
  pub clock : (t : ℕ) → t < done → start + t < 1024 → get_or late' (start + t) 0 ≡ asked_clock origin (lead + (count - suc t))
  pub reads : (t : ℕ) → t < done → start + t < 1024 → get_or sources' (3 * (start + t)) 0 ≡ behind from start t
  pub owners_before : (i : ℕ) → i < start → get_or owners' i 0 ≡ get_or owners i 0
  pub late_before : (i : ℕ) → i < start → get_or late' i 0 ≡ get_or late i 0
  pub late-after : (i : ℕ) → start + done ≤ i → get_or late' i 0 ≡ get_or late i 0
  pub sources_before : (i : ℕ) → i < 3 * start → get_or sources' i 0 ≡ get_or sources i 0

-- all of them
abbrev pub PutsRegisters : (s from lead origin count start : ℕ) (owners late sources owners' late' sources' : List ℕ) → Type 0
PutsRegisters s from lead origin count start = PutsTo s from lead origin count start count

module _ (N : Net) (f : Timing) where
  abbrev pub entry_count : ℕ
  entry_count = length (entry_places N f (zero_word N))

  abbrev pub entry_at : ℕ → Place
  entry_at i = get_or (entry_places N f (zero_word N)) i no_place

  -- what stands on the wire to operand p of an entry; and on the first m wires, three to an entry
  abbrev pub wire_on : {A : Type 0} → (ℕ → ℕ → ℕ → List A) → Place → ℕ → List A
  wire_on g (Entry x c) p = cond (ltb p (operands (element_at N x))) (g x c p) []
  wire_on g (Reg x c p j) q = []

  unfoldable pub row_before : {A : Type 0} → (ℕ → ℕ → ℕ → List A) → ℕ → List A
  row_before g m = concat_map (λ j. wire_on g (entry_at (j / 3)) (j % 3)) (below m)

  -- the registers
  abbrev pub wires_before : ℕ → List Place
  wires_before m = row_before (regs_on N f (zero_word N)) m

  -- what is at hand once the entries are placed
  pub record Planning (leads roots passes ends copied firsts : List ℕ) : Type 0 where
    pub ready : Ready N f leads roots passes
    pub ends_in_lem : (k : ℕ) → k < 3 * size N → wire_at N f k ≡ true → get_or ends k 0 ≡ root N (source_of N k)
    pub copies_in : Copied N f copied
    pub firsts_in_lem : Firsts N f firsts (size N)
    pub few : entry_count ≤ 1024

  module _ (owners words late sources : List ℕ) where
    -- what the lists hold of an entry's operand p, and of a register
    abbrev pub HeadHeld : ℕ → Place → ℕ → Type 0
    HeadHeld m (Entry x c) p = p < operands (element_at N x) → get_or sources m 0 ≡ number_of N f (zero_word N) (along N f (zero_word N) x c p 0)
    HeadHeld m (Reg x c p j) q = Unit {0}

    abbrev pub RegHeld : ℕ → Place → Type 0
    RegHeld r (Entry x c) = ⊥
    RegHeld r (Reg x c p j) =
        (get_or owners r 0 ≡ source N x p) × (get_or late r 0 ≡ asked_clock f.origin (j + f.lead x)) × (get_or sources (3 * r) 0 ≡ number_of N f (zero_word N) (along N f (zero_word N) x c p (suc j)))

    -- the first m wires are laid, and so many nodes stand
    pub record Laid (m total : ℕ) : Type 0 where
      pub held : Stored owners words (entry_places N f (zero_word N))
      pub count : total ≡ entry_count + length (wires_before m)
      pub heads : (j : ℕ) → j < m → HeadHeld j (entry_at (j / 3)) (j % 3)
      pub regs : (i : ℕ) → i < length (wires_before m) → entry_count + i < 1024 → RegHeld (entry_count + i) (get_or (wires_before m) i no_place)
      pub never : (i : ℕ) → i < entry_count → get_or late i 0 ≡ 65535
      pub ahead : (i : ℕ) → total ≤ i → i < 1024 → get_or late i 0 ≡ 65535

    -- all are laid, or it is known that there are too many
    pub record AllLaid (total : ℕ) : Type 0 where
      pub exact : total ≤ 1024 → Laid (3 * entry_count) total
      pub over : 1024 < total → 1024 < entry_count + length (wires_before (3 * entry_count))
