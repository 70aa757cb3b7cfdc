-- Entries placed one after the other. Assumes nothing.
use Rattle.std.specs.Prelude.{◌≡◌, refl, Bool, not, ◌&&◌, List, [], ◌∷◌, ◌++◌, map, ℕ, zero, suc, ◌+◌, ◌-◌, ◌*◌, ◌/◌, ◌%◌, ◌≤◌, ◌<◌, length, set, eqb}
use Rattle.std.proofs.Math.Path.{sym, ap, ap₂}
use Rattle.std.proofs.Common.{subst, ◌∙◌, ⊎_elim, append-nil, append_assoc, zero-le, suc-le-suc, not-suc-le-zero, le_refl, length-append, get_or-append-add, get_or-set_same, get_or-set_other}
use Rattle.std.proofs.Math.Bool.{true, false, cond}
use Rattle.std.proofs.lemmas.Bool.{false≢true}
use native.Mathlib.Omega.{arith}
use Rattle.std.proofs.Math.ListN.{get_or, get_or-append}
use Rattle.std.proofs.lemmas.List.{length-map}
use Rattle.std.proofs.Math.Seq.{set_out, get_or-append_seam}
use Rattle.std.proofs.Math.Dec.{ltb}
use borrow.Author.Tests.{eq-eqb, ne_eqb, lt-ltb, le-ltb}
use Rattle.lists.specs.Lists.{below, concat_map, only, has, add_new, distinct_from, distinct}
use Rattle.lists.proofs.BelowLaws.{true_or_false, lt_or_le, get_or_map-lt, lt-suc_split}
use Rattle.lists.proofs.ListsLaws.{get_or_has, map-append}
use Rattle.lists.proofs.Sections.{section-length, section-put, section_before, section-after}
use Rattle.netlist.specs.declared.Element.{Element}
use Rattle.netlist.specs.declared.Element.TheVariants.{Input, Output, Register, Async, Clocked, Gate}
use Rattle.netlist.specs.Net.{Net, size, element_at, source, is_register, is_memory}
use Rattle.netlist.proofs.NodeLaws.{few_operands}
use Rattle.behaviour.specs.Run.{zero_word}
use Rattle.retiming.specs.Rewrite.{Timing, Place, Entry, Reg, root, memory_at, stays, copy_on, copies_at, copies_of, copies, entries_of, entry_places}
use Rattle.retiming.specs.Layout.{no_place}
use Rattle.lists.proofs.Threes.{concat_next, concat_longer, in_row, row_of_three, in_threes}
use Rattle.wiring.specs.Wiring.{wire_count, wire_at, WiredTo, Copied}
use Rattle.wiring.specs.WiringLaws.{wires_few, count_wires, by_wires}
use Rattle.wiring.specs.Links.{From}
use Rattle.plan.specs.Areas.{owners_in, words_in, late_in, firsts_in}
use Rattle.plan.specs.Entries.{EntryPut, Finds, Stored, Placing, Adds, wanted_of, Wants, AddsAll, entries_before, Firsts, AllPlaced}

-- ---- words put in the plan's area

pub entry-put : (l : List ℕ) (count u c : ℕ) → count < 1024 → EntryPut l (set (set l count u) (1024 + count) c) count u c
entry-put l count u c h = record {
  owners = section-after 0 1024 (set l count u) (1024 + count) c (omega arith) ∙ ap (λ (i : ℕ). owners_in (set l i u)) (let e : count ≡ 0 + count = omega arith in e) ∙ section-put 0 1024 l count u h;
  words = section-put 1024 1024 (set l count u) count c h ∙ ap (λ (w : List ℕ). set w count c) (section_before 1024 1024 l count u (omega arith));
  late = section_before 2048 1024 (set l count u) (1024 + count) c (omega arith) ∙ section_before 2048 1024 l count u (omega arith);
  firsts = section_before 3072 1024 (set l count u) (1024 + count) c (omega arith) ∙ section_before 3072 1024 l count u (omega arith);
}

pub entry_out : (l : List ℕ) (count u c : ℕ) → length l ≡ 7168 → 1024 ≤ count → EntryPut l l count u c
entry_out l count u c e h = record {
  owners = sym (set_out (owners_in l) count u (omega (arith, section-length 0 1024 l (omega arith))));
  words = sym (set_out (words_in l) count c (omega (arith, section-length 1024 1024 l (omega arith))));
  late = refl;
  firsts = refl;
}

-- where the entries of a node begin
pub first-put : (l m : List ℕ) (u x : ℕ) → u < 1024 → m ≡ set l (3072 + u) x → (owners_in m ≡ owners_in l) × (words_in m ≡ words_in l) × (late_in m ≡ late_in l) × (firsts_in m ≡ set (firsts_in l) u x)
first-put l m u x h a = (
  ap (λ (w : List ℕ). owners_in w) a ∙ section-after 0 1024 l (3072 + u) x (omega arith),
  ap (λ (w : List ℕ). words_in w) a ∙ section-after 1024 1024 l (3072 + u) x (omega arith),
  ap (λ (w : List ℕ). late_in w) a ∙ section-after 2048 1024 l (3072 + u) x (omega arith),
  ap (λ (w : List ℕ). firsts_in w) a ∙ section-put 3072 1024 l u x h,
)

-- the sections of the entries have room for 1,024
pub owners_room : (l : List ℕ) → length l ≡ 7168 → 1024 ≤ length (owners_in l)
owners_room l e = omega (arith, section-length 0 1024 l (omega arith))

pub words_room : (l : List ℕ) → length l ≡ 7168 → 1024 ≤ length (words_in l)
words_room l e = omega (arith, section-length 1024 1024 l (omega arith))

-- ---- one entry more

module _ {owners words : List ℕ} {l : List Place} {count : ℕ} (t : Placing owners words l count) (a : 1024 ≤ length owners) (b : 1024 ≤ length words) (u c : ℕ) where
  abbrev more : List Place
  more = l ++ Entry u c ∷ []

  more-length : length more ≡ length l + 1
  more-length = length-append l (Entry u c ∷ [])

  stored_more : count + 1 ≤ 1024 → (count + 1 ≡ length more) × Stored (set owners count u) (set words count c) more
  stored_more h = go (t.exact (omega arith))
    where
      go : (count ≡ length l) × Stored owners words l → (count + 1 ≡ length more) × Stored (set owners count u) (set words count c) more
      go (e, s) = (omega (arith, more-length), λ i k. ⊎_elim (earlier i) (here i) (lt-suc_split (let z : i < suc (length l) = omega (arith, more-length) in z)))
        where
          earlier : (i : ℕ) → i < length l → get_or more i no_place ≡ Entry (get_or (set owners count u) i 0) (get_or (set words count c) i 0)
          earlier i k = get_or-append l (Entry u c ∷ []) no_place i k ∙ s i k ∙ ap₂ Entry (sym (get_or-set_other owners count i u 0 (λ q. omega arith))) (sym (get_or-set_other words count i c 0 (λ q. omega arith)))

          here : (i : ℕ) → i ≡ length l → get_or more i no_place ≡ Entry (get_or (set owners count u) i 0) (get_or (set words count c) i 0)
          here i k =
              ap (λ (j : ℕ). get_or more j no_place) k ∙ get_or-append_seam l (Entry u c) [] no_place
              ∙ ap₂ Entry (sym (get_or-set_same owners count u 0 (omega arith)) ∙ ap (λ (j : ℕ). get_or (set owners count u) j 0) (e ∙ sym k)) (sym (get_or-set_same words count c 0 (omega arith)) ∙ ap (λ (j : ℕ). get_or (set words count c) j 0) (e ∙ sym k))

  pub placing_more : Placing (set owners count u) (set words count c) more (count + 1)
  placing_more = record {
    exact = stored_more;
    over = λ h. ⊎_elim (λ k. omega (arith, more-length, t.over k)) (λ k. omega (arith, more-length, (t.exact k).0)) (lt_or_le 1024 count);
  }

-- none more, where more are known to be over
pub placing_over : {owners words : List ℕ} {l m : List Place} {count : ℕ} → 1024 < count → length l ≤ length m → Placing owners words l count → Placing owners words m count
placing_over h k t = record { exact = λ e. absurd (omega arith); over = λ e. omega (arith, t.over e) }

pub placing_as : {owners owners' words words' : List ℕ} {l m : List Place} {count : ℕ} → owners' ≡ owners → words' ≡ words → l ≡ m → Placing owners words l count → Placing owners' words' m count
placing_as {owners} {owners'} {words} {words'} {l} {m} {count} p q r t =
    subst (λ (y : List ℕ). Placing y words' m count) (sym p) (subst (λ (y : List ℕ). Placing owners y m count) (sym q) (subst (λ (y : List Place). Placing owners words y count) r t))

-- ---- a reset word of a ROM more

unfoldable pub word_of : Place → ℕ
word_of (Entry u c) = c
word_of (Reg x c p j) = 0

has_none : (c : ℕ) (d : List ℕ) → ((j : ℕ) → j < length d → get_or d j 0 ≡ c → ⊥) → has c d ≡ false
has_none c [] h = refl
has_none c (x ∷ d) h = rw (ne_eqb c x (λ e. h 0 (suc-le-suc zero-le) (sym e))) (has_none c d (λ j l. h (suc j) (suc-le-suc l)))

has_some : (c : ℕ) (d : List ℕ) (j : ℕ) → j < length d → get_or d j 0 ≡ c → has c d ≡ true
has_some c d j h e = subst (λ (y : ℕ). has y d ≡ true) e (get_or_has d j 0 h)

add_none : (c : ℕ) (d : List ℕ) → has c d ≡ true → add_new c d ≡ d
add_none c d e = rw e

add-one : (c : ℕ) (d : List ℕ) → has c d ≡ false → add_new c d ≡ d ++ c ∷ []
add-one c d e = rw e

add_longer : (c : ℕ) (d : List ℕ) → length d ≤ length (add_new c d)
add_longer c d = ⊎_elim (λ t. rw (add_none c d t) (le_refl _)) (λ t. rw (add-one c d t) (omega (arith, length-append d (c ∷ [])))) (true_or_false (has c d))

module _ (pre : List Place) (u : ℕ) (d : List ℕ) where
  abbrev so_far : List Place
  so_far = pre ++ map (Entry u) d

  so_far_length : length so_far ≡ length pre + length d
  so_far_length = length-append pre (map (Entry u) d) ∙ ap (λ (k : ℕ). length pre + k) (length-map d (Entry u))

  -- the words held from the first of them on
  word_held : (owners words : List ℕ) → Stored owners words so_far → (j : ℕ) → j < length d → get_or words (length pre + j) 0 ≡ get_or d j 0
  unfolding word_of
  word_held owners words s j h =
      sym (ap word_of (s (length pre + j) (omega (arith, so_far_length))))
      ∙ ap word_of (get_or-append-add pre (map (Entry u) d) j no_place ∙ get_or_map-lt (Entry u) d j 0 no_place h)

  longer : (c : ℕ) → length so_far ≤ length (pre ++ map (Entry u) (add_new c d))
  longer c = omega (arith, so_far_length, length-append pre (map (Entry u) (add_new c d)), length-map (add_new c d) (Entry u), add_longer c d)

  -- there are too many already
  pub copy_over : {owners words : List ℕ} {count : ℕ} (c : ℕ) → 1024 < count → Placing owners words so_far count → Placing owners words (pre ++ map (Entry u) (add_new c d)) count
  copy_over c o t = placing_over o (longer c) t

  module _ {owners words : List ℕ} {c first count r : ℕ} (e : first ≡ length pre) (seek : Finds words c first count r) (t : Placing owners words so_far count) where
    -- the word is there already
    pub copy_there : r < count → Placing owners words (pre ++ map (Entry u) (add_new c d)) count
    copy_there h = ⊎_elim (λ o. copy_over c o t) there (lt_or_le 1024 count)
      where
        there : count ≤ 1024 → Placing owners words (pre ++ map (Entry u) (add_new c d)) count
        there o = go (t.exact o)
          where
            go : (count ≡ length so_far) × Stored owners words so_far → Placing owners words (pre ++ map (Entry u) (add_new c d)) count
            go (n, s) =
                let j : ℕ = r - first in
                let at : length pre + j ≡ r = omega (arith, seek.after) in
                let l : j < length d = omega (arith, so_far_length, seek.after) in
                let has-it : has c d ≡ true = has_some c d j l (sym (word_held owners words s j l) ∙ ap (λ (k : ℕ). get_or words k 0) at ∙ seek.found h) in
                placing_as refl refl (ap (λ (l : List ℕ). pre ++ map (Entry u) l) (sym (add_none c d has-it))) t

    -- or it is added
    module _ (a : 1024 ≤ length owners) (b : 1024 ≤ length words) where
      pub copy_added : count ≤ r → Placing (set owners count u) (set words count c) (pre ++ map (Entry u) (add_new c d)) (count + 1)
      copy_added h = ⊎_elim (λ o. record { exact = λ k. absurd (omega arith); over = λ k. omega (arith, t.over o, longer c) }) added (lt_or_le 1024 count)
        where
          added : count ≤ 1024 → Placing (set owners count u) (set words count c) (pre ++ map (Entry u) (add_new c d)) (count + 1)
          added o = go (t.exact o)
            where
              go : (count ≡ length so_far) × Stored owners words so_far → Placing (set owners count u) (set words count c) (pre ++ map (Entry u) (add_new c d)) (count + 1)
              go (n, s) =
                  let new : has c d ≡ false = has_none c d (λ j l q. seek.passed (length pre + j) (omega arith) (omega (arith, so_far_length)) (word_held owners words s j l ∙ q)) in
                  placing_as refl refl
                  (append_assoc pre (map (Entry u) d) (Entry u c ∷ []) ∙ ap (λ (l : List Place). pre ++ l) (sym (map-append (Entry u) d (c ∷ []))) ∙ ap (λ (l : List ℕ). pre ++ map (Entry u) l) (sym (add-one c d new)))
                  (placing_more t a b u c)

-- ---- the wires one after the other

distinct_append : (l xs ys : List ℕ) → distinct_from l (xs ++ ys) ≡ distinct_from (distinct_from l xs) ys
distinct_append l [] ys = refl
distinct_append l (x ∷ xs) ys = distinct_append (add_new x l) xs ys

module _ (ends copied : List ℕ) (u k : ℕ) where
  wanted_next : wanted_of ends copied u (k + 1) ≡ wanted_of ends copied u k ++ only (eqb (get_or ends k 0) u) (get_or copied k 0)
  wanted_next = concat_next (λ j. only (eqb (get_or ends j 0) u) (get_or copied j 0)) k

  distinct_next : distinct (wanted_of ends copied u (k + 1)) ≡ distinct_from (distinct (wanted_of ends copied u k)) (only (eqb (get_or ends k 0) u) (get_or copied k 0))
  distinct_next = ap distinct wanted_next ∙ distinct_append [] (wanted_of ends copied u k) (only (eqb (get_or ends k 0) u) (get_or copied k 0))

  pub wants_one : get_or ends k 0 ≡ u → distinct (wanted_of ends copied u (k + 1)) ≡ add_new (get_or copied k 0) (distinct (wanted_of ends copied u k))
  wants_one e = distinct_next ∙ ap (λ (b : Bool). distinct_from (distinct (wanted_of ends copied u k)) (only b (get_or copied k 0))) (eq-eqb (get_or ends k 0) u e)

  pub wants_none : (get_or ends k 0 ≡ u → ⊥) → distinct (wanted_of ends copied u (k + 1)) ≡ distinct (wanted_of ends copied u k)
  wants_none e = distinct_next ∙ ap (λ (b : Bool). distinct_from (distinct (wanted_of ends copied u k)) (only b (get_or copied k 0))) (ne_eqb (get_or ends k 0) u e)

-- ---- the reset words of a ROM, by its wires in a row

module _ {N : Net} {f : Timing} {ends froms clocks : List ℕ} (copied : List ℕ) (w : WiredTo N f ends froms clocks (3 * size N)) (made : Copied N f copied) (small : size N ≤ 1024) (u : ℕ) (inside : u < size N) where
  abbrev copied_to : ℕ → List ℕ
  copied_to = copies_of N f (zero_word N) u

  abbrev h : ℕ → List ℕ
  h k = only (eqb (get_or ends k 0) u) (get_or copied k 0)

  -- a wire's word, and none where there is no wire
  wire_wants : (x p : ℕ) → x < size N → p < 3 → p < wire_count N f x → h (3 * x + p) ≡ copies_at N f (zero_word N) u x p
  unfolding copies_at wire_at
  wire_wants x p k l g =
      let a : (3 * x + p) / 3 ≡ x = omega arith in
      let b : (3 * x + p) % 3 ≡ p = omega arith in
      let t : wire_at N f (3 * x + p) ≡ true = ap₂ (λ (i j : ℕ). ltb i (wire_count N f j)) b a ∙ lt-ltb p (wire_count N f x) g in
      let e : get_or ends (3 * x + p) 0 ≡ root N (source N x p) = (w.wires (3 * x + p) (omega arith) t).end ∙ ap₂ (λ (i j : ℕ). root N (source N i j)) a b in
      let d : get_or copied (3 * x + p) 0 ≡ copy_on N f (zero_word N) x p = made (3 * x + p) (omega arith) t ∙ ap₂ (copy_on N f (zero_word N)) a b in
      ap₂ (λ (i j : ℕ). only (eqb i u) j) e d

  gap_wants : (x p : ℕ) → x < size N → p < 3 → wire_count N f x ≤ p → h (3 * x + p) ≡ []
  unfolding wire_at
  gap_wants x p k l g =
      let a : (3 * x + p) / 3 ≡ x = omega arith in
      let b : (3 * x + p) % 3 ≡ p = omega arith in
      let t : wire_at N f (3 * x + p) ≡ false = ap₂ (λ (i j : ℕ). ltb i (wire_count N f j)) b a ∙ le-ltb p (wire_count N f x) g in
      let e : get_or ends (3 * x + p) 0 ≡ 65535 = (w.gaps (3 * x + p) (omega arith) t).end in
      ap (λ (z : Bool). only z (get_or copied (3 * x + p) 0)) (ne_eqb (get_or ends (3 * x + p) 0) u (λ q. omega arith))

  row_wants : (x p : ℕ) → x < size N → p < 3 → h (3 * x + p) ≡ in_row (wire_count N f x) (copies_at N f (zero_word N) u x) p
  row_wants x p k l =
      ⊎_elim (λ g. wire_wants x p k l g ∙ sym (rw (lt-ltb p (wire_count N f x) g)))
      (λ g. gap_wants x p k l g ∙ sym (rw (le-ltb p (wire_count N f x) g))) (lt_or_le p (wire_count N f x))

  -- the wires to x: none where it is a register, or left out
  copies_row : (x : ℕ) → copied_to x ≡ concat_map (copies_at N f (zero_word N) u x) (below (wire_count N f x))
  unfolding copies_of
  copies_row x = by_wires N f x (λ n. concat_map (copies_at N f (zero_word N) u x) (below n))

  pub all_wanted : concat_map (copies_of N f (zero_word N) u) (below (size N)) ≡ wanted_of ends copied u (3 * size N)
  all_wanted = in_threes copied_to h (size N) (λ x k.
      let z : 3 * x ≡ 3 * x + 0 = omega arith in
      copies_row x ∙ row_of_three (wire_count N f x) (copies_at N f (zero_word N) u x) (omega (arith, count_wires N f x, wires_few (element_at N x), few_operands (element_at N x)))
      ∙ sym (ap₂ ◌++◌ (ap₂ ◌++◌ (ap h z ∙ row_wants x 0 k (omega arith)) (row_wants x 1 k (omega arith))) (row_wants x 2 k (omega arith))))

-- ---- one node more

module _ (N : Net) (f : Timing) (u : ℕ) where
  entries_next : entries_before N f (u + 1) ≡ entries_before N f u ++ map (Entry u) (copies N f (zero_word N) u)
  unfolding entries_before entries_of
  entries_next = concat_next (entries_of N f (zero_word N)) u

  copies_by : {e : Element} {k : Bool} → e ≡ element_at N u → k ≡ f.keeps u
      → copies N f (zero_word N) u ≡ cond (not (is_register e) && k) (cond (is_memory e) (distinct (concat_map (copies_of N f (zero_word N) u) (below (size N)))) (0 ∷ [])) []
  unfolding copies stays memory_at
  copies_by q k = ap₂ (λ (e : Element) (k : Bool). cond (not (is_register e) && k) (cond (is_memory e) (distinct (concat_map (copies_of N f (zero_word N) u) (below (size N)))) (0 ∷ [])) []) (sym q) (sym k)

  rom_stays : (e : Element) → is_memory e ≡ true → is_register e ≡ false
  rom_stays Input h = refl
  rom_stays Output h = refl
  rom_stays (Register r) h = absurd (false≢true h)
  rom_stays (Async m) h = refl
  rom_stays (Clocked m r) h = refl
  rom_stays (Gate o) h = refl

  -- it is left out
  pub entries-left : false ≡ f.keeps u → entries_before N f u ≡ entries_before N f (u + 1)
  entries-left k = sym (entries_next ∙ ap (λ (d : List ℕ). entries_before N f u ++ map (Entry u) d) (copies_by refl k ∙ none (is_register (element_at N u)) _) ∙ append-nil (entries_before N f u))
    where
      none : (b : Bool) (l : List ℕ) → cond (not b && false) l [] ≡ []
      none true l = refl
      none false l = refl

  module _ {e : Element} (q : e ≡ element_at N u) (k : true ≡ f.keeps u) where
    pub entries-rom : is_memory e ≡ true → {l : List ℕ} → concat_map (copies_of N f (zero_word N) u) (below (size N)) ≡ l → entries_before N f u ++ map (Entry u) (distinct l) ≡ entries_before N f (u + 1)
    entries-rom m {l} is =
        let d : copies N f (zero_word N) u ≡ distinct l = copies_by q k ∙ rw (rom_stays e m, m) (ap distinct is) in
        sym (entries_next ∙ ap (λ (d : List ℕ). entries_before N f u ++ map (Entry u) d) d)

    pub entries_plain : is_memory e ≡ false → is_register e ≡ false → entries_before N f u ++ Entry u 0 ∷ [] ≡ entries_before N f (u + 1)
    entries_plain m r =
        let d : copies N f (zero_word N) u ≡ 0 ∷ [] = copies_by q k ∙ rw (r, m) in
        sym (entries_next ∙ ap (λ (d : List ℕ). entries_before N f u ++ map (Entry u) d) d)

    pub entries_register : is_register e ≡ true → entries_before N f u ≡ entries_before N f (u + 1)
    entries_register r =
        let d : copies N f (zero_word N) u ≡ [] = copies_by q k ∙ rw r in
        sym (entries_next ∙ ap (λ (d : List ℕ). entries_before N f u ++ map (Entry u) d) d ∙ append-nil (entries_before N f u))

-- ---- all nodes

pub entries_all : (N : Net) (f : Timing) → entries_before N f (size N) ≡ entry_places N f (zero_word N)
unfolding entries_before entry_places
entries_all N f = refl

pub longer_after : (N : Net) (f : Timing) (u v : ℕ) → u ≤ v → length (entries_before N f u) ≤ length (entries_before N f v)
unfolding entries_before
longer_after N f u v h = concat_longer (entries_of N f (zero_word N)) u v h

module _ (N : Net) (f : Timing) (firsts : List ℕ) {owners words : List ℕ} {u count : ℕ} (t : Placing owners words (entries_before N f u) count) where
  -- there are too many before the last node is reached
  pub placed_over : u ≤ size N → 1024 < count → AllPlaced N f owners words firsts count
  placed_over h o = record { exact = λ e. absurd (omega arith); over = λ e. omega (arith, t.over e, longer_after N f u (size N) h, ap length (entries_all N f)) }

  pub placed_all : u ≡ size N → (count ≤ 1024 → Firsts N f firsts u) → AllPlaced N f owners words firsts count
  placed_all h s = record {
    exact = λ e. let x = t.exact e in let l : entries_before N f u ≡ entry_places N f (zero_word N) = ap (entries_before N f) h ∙ entries_all N f in (x.0 ∙ ap length l, subst (Stored owners words) l x.1, subst (Firsts N f firsts) h (s e));
    over = λ e. omega (arith, t.over e, ap length (ap (entries_before N f) h ∙ entries_all N f));
  }

  pub first_more : count ≤ 1024 → u < length firsts → Firsts N f firsts u → Firsts N f (set firsts u count) (u + 1)
  first_more o k s v l =
      ⊎_elim (λ a. get_or-set_other firsts u v count 0 (λ q. omega arith) ∙ s v a)
      (λ a. ap (λ (i : ℕ). get_or (set firsts u count) i 0) a ∙ get_or-set_same firsts u count 0 k ∙ (t.exact o).0 ∙ ap (λ (i : ℕ). length (entries_before N f i)) (sym a)) (lt-suc_split (let z : v < suc u = omega arith in z))

pub placing_none : (N : Net) (f : Timing) (owners words : List ℕ) → Placing owners words (entries_before N f 0) 0
unfolding entries_before
placing_none N f owners words = record { exact = λ e. (refl, λ i k. absurd (not-suc-le-zero k)); over = λ e. absurd (omega arith) }

-- ---- the wires that want a word of a ROM, one after the other

module _ {u first : ℕ} {ends copied owners₀ words₀ : List ℕ} where
  pub adds_none : AddsAll u first 0 first ends copied owners₀ words₀ owners₀ words₀
  adds_none = record { little = omega arith; adds = λ pre e t. placing_as refl refl (sym (append-nil pre)) t }

  module _ {owners words : List ℕ} {k count : ℕ} (t : AddsAll u first k count ends copied owners₀ words₀ owners words) where
    pub adds_skip : (get_or ends k 0 ≡ u → ⊥) → AddsAll u first (k + 1) count ends copied owners₀ words₀ owners words
    adds_skip h = record {
      little = omega (arith, t.little);
      adds = λ pre e s. placing_as refl refl (ap (λ (l : List ℕ). pre ++ map (Entry u) l) (sym (wants_none ends copied u k h))) (t.adds pre e s);
    }

    pub adds_more : {owners' words' : List ℕ} {c r : ℕ} → get_or ends k 0 ≡ u → c ≡ get_or copied k 0 → Adds u c first count r owners words owners' words' → AddsAll u first (k + 1) r ends copied owners₀ words₀ owners' words'
    adds_more h e a = record {
      little = omega (arith, t.little, a.little);
      adds = λ pre q s. placing_as refl refl (ap (λ (l : List ℕ). pre ++ map (Entry u) l) (ap (λ (y : ℕ). add_new y (distinct (wanted_of ends copied u k))) e ∙ sym (wants_one ends copied u k h))) (a.adds pre (distinct (wanted_of ends copied u k)) q (t.adds pre q s));
    }

  -- up to m there is none
  pub adds_past : {owners words : List ℕ} {k count : ℕ} (d : ℕ) → AddsAll u first k count ends copied owners₀ words₀ owners words → ((j : ℕ) → k ≤ j → j < k + d → get_or ends j 0 ≡ u → ⊥)
      → AddsAll u first (k + d) count ends copied owners₀ words₀ owners words
  adds_past {owners} {words} {k} {count} zero t h = subst (λ (j : ℕ). AddsAll u first j count ends copied owners₀ words₀ owners words) (let e : k ≡ k + 0 = omega arith in e) t
  adds_past {owners} {words} {k} {count} (suc d) t h =
      subst (λ (j : ℕ). AddsAll u first j count ends copied owners₀ words₀ owners words) (let e : k + d + 1 ≡ k + suc d = omega arith in e)
      (adds_skip (adds_past d t (λ j a b. h j a (omega arith))) (h (k + d) (omega arith) (omega arith)))

  -- up to the next one, or to the last
  pub adds_to : {owners words : List ℕ} {k count wires r : ℕ} (m : ℕ) → AddsAll u first k count ends copied owners₀ words₀ owners words → From ends wires u k r → k ≤ m → m ≤ r → m ≤ wires
      → AddsAll u first m count ends copied owners₀ words₀ owners words
  adds_to {owners} {words} {k} {count} m t next a b l =
      subst (λ (j : ℕ). AddsAll u first j count ends copied owners₀ words₀ owners words) (let e : k + (m - k) ≡ m = omega arith in e)
      (adds_past (m - k) t (λ j x y. next.none j x (omega arith) (omega arith)))

pub placing_count : {owners words : List ℕ} {l : List Place} {m n : ℕ} → m ≡ n → Placing owners words l n → Placing owners words l m
placing_count {owners} {words} {l} e t = subst (Placing owners words l) (sym e) t

-- the entries of a ROM are those that its wires want
pub rom_placed : (N : Net) (f : Timing) {u k count r : ℕ} {e : Element} {ends copied owners words owners' words' : List ℕ} → u < size N → true ≡ f.keeps u → e ≡ element_at N u → is_memory e ≡ true → Wants N f ends copied → k ≡ 3 * size N
    → count ≤ 1024 → Placing owners words (entries_before N f u) count → AddsAll u count k r ends copied owners words owners' words' → Placing owners' words' (entries_before N f (u + 1)) r
rom_placed N f {u} {k} {ends = ends} {copied = copied} h kept q m w z o t a =
    placing_as refl refl (entries-rom N f u q kept m (w u h ∙ ap (wanted_of ends copied u) (sym z))) (a.adds (entries_before N f u) (t.exact o).0 t)

pub firsts_as : (N : Net) (f : Timing) {firsts firsts' : List ℕ} {u : ℕ} → firsts' ≡ firsts → Firsts N f firsts u → Firsts N f firsts' u
firsts_as N f {u = u} e t = subst (λ (l : List ℕ). Firsts N f l u) (sym e) t
