-- The places of the rewritten netlist that are no registers, as two lists hold them: the old node of each, and its reset word. Assumes nothing.
use Rattle.std.specs.Prelude.{◌≡◌, List, ◌++◌, map, ℕ, ◌+◌, ◌*◌, ◌≤◌, ◌<◌, length, get_or, set, eqb}
use Rattle.lists.specs.Lists.{below, concat_map, only, add_new, distinct}
use Rattle.netlist.specs.Net.{Net, size}
use Rattle.behaviour.specs.Run.{zero_word}
use Rattle.retiming.specs.Rewrite.{Timing, Place, Entry, copies_of, entries_of, entry_places}
use Rattle.retiming.specs.Layout.{no_place}
use Rattle.plan.specs.Areas.{owners_in, words_in, late_in, firsts_in}

-- where a search for a word from one place up to another stops: at the first that has it, or at the end
pub record Finds (words : List ℕ) (c from to r : ℕ) : Type 0 where
  pub after : from ≤ r
  pub before : r ≤ to
  pub passed : (i : ℕ) → from ≤ i → i < r → get_or words i 0 ≡ c → ⊥
  pub found : r < to → get_or words r 0 ≡ c

-- an entry is put in the plan's area: at its number, and nothing where there is no room
pub record EntryPut (old new : List ℕ) (count u word : ℕ) : Type 0 where
  pub owners : owners_in new ≡ set (owners_in old) count u
  pub words : words_in new ≡ set (words_in old) count word
  pub late : late_in new ≡ late_in old
  pub firsts : firsts_in new ≡ firsts_in old

module _ (owners words : List ℕ) where
  -- these entries are held
  abbrev pub Stored : List Place → Type 0
  Stored l = (i : ℕ) → i < length l → get_or l i no_place ≡ Entry (get_or owners i 0) (get_or words i 0)

  -- and counted; over 1,024 it is only known that there are more
  pub record Placing (l : List Place) (count : ℕ) : Type 0 where
    pub exact : count ≤ 1024 → (count ≡ length l) × Stored l
    pub over : 1024 < count → 1024 < length l

-- what comes of adding reset word c of ROM u, whose entries begin at `first`
pub record Adds (u c first count r : ℕ) (owners words owners' words' : List ℕ) : Type 0 where
  pub grows : count ≤ r
  pub little : r ≤ count + 1
  pub adds : (pre : List Place) (d : List ℕ) → first ≡ length pre → Placing owners words (pre ++ map (Entry u) d) count → Placing owners' words' (pre ++ map (Entry u) (add_new c d)) r

-- the reset words that the first k wires want of ROM u
abbrev pub wanted_of : List ℕ → List ℕ → ℕ → ℕ → List ℕ
wanted_of ends copied u k = concat_map (λ j. only (eqb (get_or ends j 0) u) (get_or copied j 0)) (below k)

-- those of all wires are the definition's
abbrev pub Wants : Net → Timing → List ℕ → List ℕ → Type 0
Wants N f ends copied = (u : ℕ) → u < size N → concat_map (copies_of N f (zero_word N) u) (below (size N)) ≡ wanted_of ends copied u (3 * size N)

-- what comes of adding all of them
pub record AddsAll (u first k r : ℕ) (ends copied owners words owners' words' : List ℕ) : Type 0 where
  pub little : r ≤ first + k
  pub adds : (pre : List Place) → first ≡ length pre → Placing owners words pre first → Placing owners' words' (pre ++ map (Entry u) (distinct (wanted_of ends copied u k))) r

-- the entries of the first u nodes
unfoldable pub entries_before : Net → Timing → ℕ → List Place
entries_before N f u = concat_map (entries_of N f (zero_word N)) (below u)

-- where those of each node begin
abbrev pub Firsts : Net → Timing → List ℕ → ℕ → Type 0
Firsts N f firsts u = (v : ℕ) → v < u → get_or firsts v 0 ≡ length (entries_before N f v)

-- all are placed
pub record AllPlaced (N : Net) (f : Timing) (owners words firsts : List ℕ) (count : ℕ) : Type 0 where
  pub exact : count ≤ 1024 → (count ≡ length (entry_places N f (zero_word N))) × Stored owners words (entry_places N f (zero_word N)) × Firsts N f firsts (size N)
  pub over : 1024 < count → 1024 < length (entry_places N f (zero_word N))
