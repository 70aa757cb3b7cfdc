-- All registers in a row, wire by wire; the number of each, of an entry, and of what an entry reads. Assumes nothing.
use Rattle.std.specs.Prelude.{◌≡◌, true, false, eqb}
use Rattle.std.proofs.Math.Path.{refl, sym, ap, ap₂, subst}
use Rattle.std.proofs.Common.{◌∙◌, zero-add, not-suc-le-zero, le_refl, le_of_suc-le-suc, get_or-append-add}
use Rattle.std.proofs.Math.Logic.{⊎_elim}
use mathlib.Core.List.{List, [], ◌∷◌, ◌++◌, map}
use Prim.Native.Nat.{ℕ, zero, suc, ◌+◌, ◌-◌, ◌*◌, ◌/◌, ◌%◌, ◌≤◌, ◌<◌, zero-le, suc-le-suc}
use native.Mathlib.Omega.{arith}
use Rattle.std.proofs.Math.ListN.{length, get_or, length-append, get_or-append}
use Rattle.std.proofs.lemmas.List.{length-map}
use Rattle.lists.specs.Lists.{up_from, below, concat_map, offset, has, find}
use Rattle.lists.proofs.BelowLaws.{true_or_false, lt_or_le, eqb_self, get_or_map-lt, take_up_from}
use Rattle.lists.proofs.ListsLaws.{concat_map-concat_map, concat_map-below_get_or, concat_map-cong, get_or_concat_below, offset-below-lt, find-lt, get_or_find}
use Rattle.netlist.specs.declared.Element.{Element}
use Rattle.netlist.specs.Net.{Net, size, element_at, operands, is_register}
use Rattle.netlist.proofs.NodeLaws.{few_operands}
use Rattle.behaviour.specs.Run.{zero_word}
use Rattle.retiming.specs.Rewrite.{Timing, Place, Entry, Reg, copies, entries_of, wires_of, wires_all, wire_places, regs_on, entry_places, reg_places, places, number_of}
use Rattle.retiming.specs.Layout.{no_place, Stands, Sound}
use Rattle.retiming.proofs.LayoutLaws.{places_sound}
use Rattle.retiming.proofs.Numbers.{number_of_place}
use Rattle.lists.proofs.Threes.{concat_next, concat-after, concat_longer, row_of_three, in_threes}
use Rattle.wiring.specs.Wiring.{wires_to}
use Rattle.wiring.specs.WiringLaws.{other_wires}
use Rattle.plan.specs.Entries.{Finds, Stored, entries_before}
use Rattle.plan.specs.EntriesLaws.{word_of, longer_after, entries_all}
use Rattle.plan.specs.Registers.{entry_count, entry_at, wire_on, row_before, wires_before}

-- ---- what stands on the wires, by entry

module _ {A : Type 0} (N : Net) (f : Timing) (g : ℕ → ℕ → ℕ → List A) where
  -- of an entry, and nothing of a register
  abbrev wires_at : Place → List A
  wires_at (Entry x c) = wires_of N f (zero_word N) g x c
  wires_at (Reg x c p j) = []

  of_copies : (x : ℕ) (d : List ℕ) → concat_map (wires_of N f (zero_word N) g x) d ≡ concat_map wires_at (map (Entry x) d)
  of_copies x [] = refl
  of_copies x (c ∷ d) = ap (λ (l : List A). wires_at (Entry x c) ++ l) (of_copies x d)

  row_by_entry : wire_places N f (zero_word N) g ≡ concat_map wires_at (entry_places N f (zero_word N))
  unfolding wire_places wires_all entry_places entries_of
  row_by_entry =
      concat_map-cong (wires_all N f (zero_word N) g) (λ x. concat_map wires_at (map (Entry x) (copies N f (zero_word N) x))) 0 (size N) (λ x h. of_copies x (copies N f (zero_word N) x))
      ∙ sym (concat_map-concat_map wires_at (entries_of N f (zero_word N)) (below (size N)))

  -- a place's three wires
  three_wires : (pl : Place) → wires_at pl ≡ wire_on N f g pl 0 ++ wire_on N f g pl 1 ++ wire_on N f g pl 2
  unfolding wires_of
  three_wires (Entry x c) = row_of_three (operands (element_at N x)) (g x c) (few_operands (element_at N x))
  three_wires (Reg x c p j) = refl

  row_at : (i p : ℕ) → p < 3 → wire_on N f g (entry_at N f i) p ≡ wire_on N f g (entry_at N f ((3 * i + p) / 3)) ((3 * i + p) % 3)
  row_at i p h =
      let a : i ≡ (3 * i + p) / 3 = omega arith in
      let b : p ≡ (3 * i + p) % 3 = omega arith in
      ap₂ (λ (k q : ℕ). wire_on N f g (entry_at N f k) q) a b

  pub row_all : wire_places N f (zero_word N) g ≡ row_before N f g (3 * entry_count N f)
  unfolding row_before
  row_all =
      row_by_entry
      ∙ sym (concat_map-below_get_or (λ i. wires_at (entry_at N f i)) wires_at (entry_places N f (zero_word N)) no_place 0 (λ v h. ap (λ (i : ℕ). wires_at (entry_at N f i)) (zero-add v)))
      ∙ in_threes (λ i. wires_at (entry_at N f i)) (λ j. wire_on N f g (entry_at N f (j / 3)) (j % 3)) (entry_count N f) (λ i h.
      let z : 3 * i + 0 ≡ 3 * i = omega arith in
      three_wires (entry_at N f i) ∙ ap₂ ◌++◌ (ap₂ ◌++◌ (row_at i 0 (omega arith) ∙ ap (λ (k : ℕ). wire_on N f g (entry_at N f (k / 3)) (k % 3)) z) (row_at i 1 (omega arith))) (row_at i 2 (omega arith)))

  pub row_next : (m : ℕ) → row_before N f g (m + 1) ≡ row_before N f g m ++ wire_on N f g (entry_at N f (m / 3)) (m % 3)
  unfolding row_before
  row_next m = concat_next (λ j. wire_on N f g (entry_at N f (j / 3)) (j % 3)) m

  -- what stands on the first wires comes first
  row_after : (m k : ℕ) → row_before N f g (m + k) ≡ row_before N f g m ++ concat_map (λ j. wire_on N f g (entry_at N f (j / 3)) (j % 3)) (up_from (0 + m) k)
  unfolding row_before
  row_after m k = concat-after (λ j. wire_on N f g (entry_at N f (j / 3)) (j % 3)) m k

  pub row_longer : (m b : ℕ) → m ≤ b → length (row_before N f g m) ≤ length (row_before N f g b)
  unfolding row_before
  row_longer m b h = concat_longer (λ j. wire_on N f g (entry_at N f (j / 3)) (j % 3)) m b h

  pub row_first : (d : A) (m b i : ℕ) → m ≤ b → i < length (row_before N f g m) → (i < length (row_before N f g b)) × (get_or (row_before N f g b) i d ≡ get_or (row_before N f g m) i d)
  row_first d m b i h k =
      let e : m + (b - m) ≡ b = omega arith in
      let rest : List A = concat_map (λ j. wire_on N f g (entry_at N f (j / 3)) (j % 3)) (up_from (0 + m) (b - m)) in
      let q : row_before N f g b ≡ row_before N f g m ++ rest = ap (row_before N f g) (sym e) ∙ row_after m (b - m) in
      (omega (arith, ap length q, length-append (row_before N f g m) rest), ap (λ (l : List A). get_or l i d) q ∙ get_or-append (row_before N f g m) rest d i k)

-- ---- the registers

module _ (N : Net) (f : Timing) where
  pub regs_in_row : reg_places N f (zero_word N) ≡ wires_before N f (3 * entry_count N f)
  unfolding reg_places
  regs_in_row = row_all N f (regs_on N f (zero_word N))

  -- so a register of the first wires has the number of its place
  pub reg_number : (m i : ℕ) → m ≤ 3 * entry_count N f → i < length (wires_before N f m) → number_of N f (zero_word N) (get_or (wires_before N f m) i no_place) ≡ entry_count N f + i
  unfolding places
  reg_number m i h k =
      let w = row_first N f (regs_on N f (zero_word N)) no_place m (3 * entry_count N f) i h k in
      let e : get_or (reg_places N f (zero_word N)) i no_place ≡ get_or (wires_before N f m) i no_place = ap (λ (l : List Place). get_or l i no_place) regs_in_row ∙ w.1 in
      let l : entry_count N f + i < length (places N f (zero_word N)) = omega (arith, length-append (entry_places N f (zero_word N)) (reg_places N f (zero_word N)), ap length regs_in_row, w.0) in
      ap (number_of N f (zero_word N)) (sym (get_or-append-add (entry_places N f (zero_word N)) (reg_places N f (zero_word N)) i no_place ∙ e))
      ∙ number_of_place N f (zero_word N) (entry_count N f + i) l

-- ---- an entry is found by its word

find-le : (c : ℕ) (l : List ℕ) (j : ℕ) → j < length l → get_or l j 0 ≡ c → find c l ≤ j
find-le c [] j h e = absurd (not-suc-le-zero h)
find-le c (x ∷ l) zero h e = rw (subst (λ (y : ℕ). eqb c y ≡ true) (sym e) (eqb_self c)) (le_refl _)
find-le c (x ∷ l) (suc j) h e = ⊎_elim (λ t. rw t zero-le) (λ t. rw t (suc-le-suc (find-le c l j (le_of_suc-le-suc h) e))) (true_or_false (eqb c x))

module _ (N : Net) (f : Timing) (owners words : List ℕ) (held : Stored owners words (entry_places N f (zero_word N))) (u : ℕ) (inside : u < size N) where
  begins : offset (entries_of N f (zero_word N)) (below (size N)) u ≡ length (entries_before N f u)
  unfolding entries_before
  begins = ap (λ (l : List ℕ). length (concat_map (entries_of N f (zero_word N)) l)) (take_up_from 0 (size N) u (omega arith))

  module _ (j : ℕ) (l : j < length (copies N f (zero_word N) u)) where
    in_entries : j < length (entries_of N f (zero_word N) u)
    unfolding entries_of
    in_entries = rw (length-map (copies N f (zero_word N) u) (Entry u)) l

    copy_inside : length (entries_before N f u) + j < entry_count N f
    unfolding entry_places
    copy_inside = omega (arith, begins, offset-below-lt (entries_of N f (zero_word N)) (size N) u j inside in_entries)

    copy_word : get_or words (length (entries_before N f u) + j) 0 ≡ get_or (copies N f (zero_word N) u) j 0
    unfolding entry_places entries_of word_of
    copy_word =
        sym (ap word_of (held (length (entries_before N f u) + j) copy_inside))
        ∙ ap (λ (k : ℕ). word_of (get_or (entry_places N f (zero_word N)) (k + j) no_place)) (sym begins)
        ∙ ap word_of (get_or_concat_below (entries_of N f (zero_word N)) (size N) u j inside in_entries no_place ∙ get_or_map-lt (Entry u) (copies N f (zero_word N) u) j 0 no_place l)

  pub entry_number : {c first r : ℕ} → first ≡ length (entries_before N f u) → has c (copies N f (zero_word N) u) ≡ true → Finds words c first (entry_count N f) r → r ≡ number_of N f (zero_word N) (Entry u c)
  unfolding number_of
  entry_number {c} {first} {r} e h seek =
      let q : ℕ = find c (copies N f (zero_word N) u) in
      let lq : q < length (copies N f (zero_word N) u) = find-lt c (copies N f (zero_word N) u) h in
      let wq : get_or words (length (entries_before N f u) + q) 0 ≡ c = copy_word q lq ∙ get_or_find c (copies N f (zero_word N) u) 0 h in
      let up : r ≤ first + q = ⊎_elim (λ z. absurd (seek.passed (length (entries_before N f u) + q) (omega arith) (omega arith) wq)) (λ z. z) (lt_or_le (first + q) r) in
      let j : ℕ = r - first in
      let at : length (entries_before N f u) + j ≡ r = omega (arith, seek.after) in
      let lj : j < length (copies N f (zero_word N) u) = omega (arith, seek.after) in
      let wj : get_or (copies N f (zero_word N) u) j 0 ≡ c = sym (copy_word j lj) ∙ ap (λ (k : ℕ). get_or words k 0) at ∙ seek.found (omega (arith, copy_inside q lq)) in
      omega (arith, begins, seek.after, find-le c (copies N f (zero_word N) u) j lj wj)

pub entries_few : (N : Net) (f : Timing) (u : ℕ) → u ≤ size N → length (entries_before N f u) ≤ entry_count N f
entries_few N f u h = omega (arith, longer_after N f u (size N) h, ap length (entries_all N f))

-- ---- an entry's reader

module _ (N : Net) (f : Timing) (owners words : List ℕ) (held : Stored owners words (entry_places N f (zero_word N))) (i : ℕ) (h : i < entry_count N f) where
  pub reader_stands : Stands N f (zero_word N) (get_or owners i 0) (get_or words i 0)
  unfolding places
  reader_stands =
      let e : get_or (places N f (zero_word N)) i no_place ≡ Entry (get_or owners i 0) (get_or words i 0) = get_or-append (entry_places N f (zero_word N)) (reg_places N f (zero_word N)) no_place i h ∙ held i h in
      subst (Sound N f (zero_word N)) e (places_sound N f (zero_word N) i (omega (arith, length-append (entry_places N f (zero_word N)) (reg_places N f (zero_word N)))))

pub wires_all_lem : (e : Element) → is_register e ≡ false → wires_to e ≡ operands e
wires_all_lem e h = sym (other_wires e h)
