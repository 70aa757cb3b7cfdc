-- The rewritten netlist has the old one's ports, in the old order. Assumes nothing.
use Rattle.std.specs.Prelude.{◌≡◌, Bool, false, ℕ, suc, ◌+◌, ◌-◌, ◌≤◌, ◌<◌, ltb}
use Rattle.std.proofs.Math.Path.{refl, sym, ap, ap₂, subst}
use Rattle.std.proofs.Common.{◌∙◌, true≢false, not-suc-le-zero, zero-add, add-zero, length-append}
use Rattle.std.proofs.Math.Logic.{inr, ⊎_elim}
use Rattle.std.proofs.Math.Bool.{true}
use Rattle.std.proofs.lemmas.Bool.{false≢true}
use mathlib.Core.List.{List, [], ◌∷◌, ◌++◌, map, append-nil, append_assoc}
use native.Mathlib.Omega.{arith}
use Rattle.std.proofs.Math.ListN.{length, get_or, get_or-append}
use Rattle.std.proofs.lemmas.List.{length-map}
use Rattle.words.specs.declared.Op.{Op}
use Rattle.words.specs.declared.Op.TheVariants.{Constant, Choose}
use Rattle.netlist.specs.declared.Element.{Element}
use Rattle.netlist.specs.declared.Element.TheVariants.{Input, Output, Register, Async, Clocked, Gate}
use Rattle.netlist.specs.declared.Node.{Node}
use Rattle.lists.specs.Lists.{below, up_from, concat_map, offset, only, select, count_below, distinct}
use Rattle.lists.proofs.BelowLaws.{true_or_false, get_or_map-lt, take_up_from, up_from_split}
use Rattle.lists.proofs.ListsLaws.{concat_map-append, concat_map-below_get_or, concat_map_none, concat_map-cong, concat_map-concat_map, length-select, in_part-below, get_or_concat_below, All, all_append, all_get_d, all_listed, all_concat_below}
use Rattle.behaviour.specs.Runs.{input_widths, output_widths}
use Rattle.netlist.specs.Net.{Net, size, element_at, width_at, is_register, is_input, is_output, is_memory, port_of, outputs_of}
use Rattle.retiming.specs.Rewrite.{Timing, Place, Entry, Reg, memory_at, count_on, stays, new_table, copies_of, copies, entries_of, regs_on, entry_places, reg_places, places, reset_word, new_element}
use Rattle.retiming.specs.Gates.{Spot, Old, One, Chain, Shown, Pick, first_on, shown_on, chain_length, pick_pair, picks_on, chain_spots, pick_spots, spots, spot_node, gated_with}
use Rattle.retiming.specs.Layout.{no_place}
use Rattle.retiming.proofs.LayoutLaws.{either, all_wires, stays_if}
use Rattle.retiming.specs.GatesLayout.{no_spot, SpotSound}
use Rattle.retiming.proofs.GatesLayout.{all_old, spots_sound}
use Rattle.retiming.specs.Candidate.{Retimes, value, spot_value, Valid, SpotValid}
use Rattle.retiming.proofs.Candidate.{size-new, node_new}

-- a class of elements that rewriting keeps, and that has no register and no ROM
record Kept (X : Element → Bool) : Type 0 where
  new : (e : Element) (m c : ℕ) → X (new_element e m c) ≡ X e
  no_register : (e : Element) → is_register e ≡ true → X e ≡ false
  no_rom : (e : Element) → is_memory e ≡ true → X e ≡ false
  no_gate : (o : Op) → X (Gate o) ≡ false

inputs_kept : Kept is_input
inputs_kept = record {
  new = λ e n c. elim e as (λ v. is_input (new_element v n c) ≡ is_input v) [ Input ↦ refl | Output ↦ refl | Register r ↦ refl | Async m ↦ refl | Clocked m r ↦ refl | Gate o ↦ refl ];
  no_register = λ e. elim e as (λ v. is_register v ≡ true → is_input v ≡ false) [ Input ↦ λ h. absurd (false≢true h) | Output ↦ λ h. refl | Register r ↦ λ h. refl | Async m ↦ λ h. refl | Clocked m r ↦ λ h. refl | Gate o ↦ λ h. refl ];
  no_rom = λ e. elim e as (λ v. is_memory v ≡ true → is_input v ≡ false) [ Input ↦ λ h. absurd (false≢true h) | Output ↦ λ h. refl | Register r ↦ λ h. refl | Async m ↦ λ h. refl | Clocked m r ↦ λ h. refl | Gate o ↦ λ h. refl ];
  no_gate = λ o. refl;
}

outputs_kept : Kept is_output
outputs_kept = record {
  new = λ e n c. elim e as (λ v. is_output (new_element v n c) ≡ is_output v) [ Input ↦ refl | Output ↦ refl | Register r ↦ refl | Async m ↦ refl | Clocked m r ↦ refl | Gate o ↦ refl ];
  no_register = λ e. elim e as (λ v. is_register v ≡ true → is_output v ≡ false) [ Input ↦ λ h. refl | Output ↦ λ h. absurd (false≢true h) | Register r ↦ λ h. refl | Async m ↦ λ h. refl | Clocked m r ↦ λ h. refl | Gate o ↦ λ h. refl ];
  no_rom = λ e. elim e as (λ v. is_memory v ≡ true → is_output v ≡ false) [ Input ↦ λ h. refl | Output ↦ λ h. absurd (false≢true h) | Register r ↦ λ h. refl | Async m ↦ λ h. refl | Clocked m r ↦ λ h. refl | Gate o ↦ λ h. refl ];
  no_gate = λ o. refl;
}

only_append : {A : Type 0} (b : Bool) (a : A) → only b a ++ [] ≡ only b a
only_append true a = refl
only_append false a = refl

only_value : {A : Type 0} (b : Bool) (a a' : A) → (b ≡ true → a ≡ a') → only b a ≡ only b a'
only_value {A} true a a' h = ap (λ (x : A). x ∷ []) (h refl)
only_value false a a' h = refl

only_false : {A : Type 0} (b : Bool) (a : A) → b ≡ false → only b a ≡ []
only_false true a e = absurd (true≢false e)
only_false false a e = refl

map-append : {A B : Type 0} (f : A → B) (l m : List A) → map f (l ++ m) ≡ map f l ++ map f m
map-append f [] m = refl
map-append {B = B} f (x ∷ l) m = ap (λ (k : List B). f x ∷ k) (map-append f l m)

concat-map : {A B C : Type 0} (f : A → B) (g : B → List C) (l : List A) → concat_map g (map f l) ≡ concat_map (λ x. g (f x)) l
concat-map f g [] = refl
concat-map {C = C} f g (x ∷ l) = ap (λ (k : List C). g (f x) ++ k) (concat-map f g l)

-- no node of the old netlist
abbrev Added : Spot → Type 0
Added (Old (Entry u c)) = ⊥
Added (Old (Reg x c p j)) = Unit {0}
Added One = Unit {0}
Added (Chain i) = Unit {0}
Added (Shown x c p k) = Unit {0}
Added (Pick x c p k) = Unit {0}

-- what follows the entries
unfoldable later_spots : (N : Net) (f : Timing) (Z : ℕ → ℕ → ℕ) → List Spot
later_spots N f Z = map Old (reg_places N f Z) ++ (chain_spots N f Z ++ pick_spots N f Z)

spots_are : (N : Net) (f : Timing) (Z : ℕ → ℕ → ℕ) → spots N f Z ≡ map Old (entry_places N f Z) ++ later_spots N f Z
unfolding spots places later_spots
spots_are N f Z =
    ap (λ (l : List Spot). l ++ (chain_spots N f Z ++ pick_spots N f Z)) (map-append Old (entry_places N f Z) (reg_places N f Z))
    ∙ append_assoc (map Old (entry_places N f Z)) (map Old (reg_places N f Z)) (chain_spots N f Z ++ pick_spots N f Z)

later_added : (N : Net) (f : Timing) (Z : ℕ → ℕ → ℕ) → All Added (later_spots N f Z)
unfolding later_spots reg_places regs_on chain_spots pick_spots picks_on pick_pair
later_added N f Z =
    all_append Added (map Old (reg_places N f Z)) (chain_spots N f Z ++ pick_spots N f Z)
    (all_old Added (reg_places N f Z) (all_wires N f Z (λ pl. Added (Old pl)) (regs_on N f Z) (λ x c p s q. all_listed (λ pl. Added (Old pl)) (λ i. Reg x c p (count_on N f Z x p - suc i)) (count_on N f Z x p) (λ i k. tt))))
    (all_append Added (chain_spots N f Z) (pick_spots N f Z)
    (⊎_elim (λ t. rw t (tt, all_listed Added Chain (chain_length N f Z) (λ i k. tt))) (λ t. rw t tt) (true_or_false (ltb 0 (chain_length N f Z))))
    (all_wires N f Z Added (picks_on N f Z) (λ x c p s q. all_concat_below Added (pick_pair N f Z x c p) (shown_on N f Z x p) (λ k l. (tt, (tt, tt))))))

stands_first : (pre later rest : List Spot) (v : ℕ) → v < length pre
    → (v < length ((pre ++ later) ++ rest)) × (get_or ((pre ++ later) ++ rest) v no_spot ≡ get_or pre v no_spot)
stands_first pre later rest v l =
    let k : v < length (pre ++ later) = simp length-append (omega arith) in
    (simp length-append (omega arith), get_or-append (pre ++ later) rest no_spot v k ∙ get_or-append pre later no_spot v l)

module _ (N : Net) (f : Timing) (Z : ℕ → ℕ → ℕ) (X : Element → Bool) (kept : Kept X) {A : Type 0} (val : Spot → A) (old : ℕ → A)
    (agree : (u : ℕ) → u < size N → X (element_at N u) ≡ true → val (Old (Entry u 0)) ≡ old u)
    (staying : (u : ℕ) → u < size N → X (element_at N u) ≡ true → f.keeps u ≡ true) where
  -- what is chosen at a spot
  chosen : Spot → List A
  chosen sp = only (X (spot_node N f Z sp).element) (val sp)

  chosen-entry : (u c : ℕ) → chosen (Old (Entry u c)) ≡ only (X (element_at N u)) (val (Old (Entry u c)))
  unfolding chosen spot_node
  chosen-entry u c = ap (λ (b : Bool). only b (val (Old (Entry u c)))) (kept.new (element_at N u) (new_table N f Z u) c)

  chosen_added : (sp : Spot) → Added sp → chosen sp ≡ []
  unfolding chosen spot_node
  chosen_added (Old (Entry u c)) h = absurd h
  chosen_added (Old (Reg x c p j)) h = ap (λ (b : Bool). only b (val (Old (Reg x c p j)))) (kept.no_register (Register (reset_word N f Z x p j)) refl)
  chosen_added One h = ap (λ (b : Bool). only b (val One)) (kept.no_gate (Constant 1))
  chosen_added (Chain i) h = ap (λ (b : Bool). only b (val (Chain i))) (kept.no_register (Register 0) refl)
  chosen_added (Shown x c p k) h = ap (λ (b : Bool). only b (val (Shown x c p k))) (kept.no_gate (Constant (reset_word N f Z x p (first_on N f Z x + k))))
  chosen_added (Pick x c p k) h = ap (λ (b : Bool). only b (val (Pick x c p k))) (kept.no_gate Choose)

  old_chosen : Place → List A
  old_chosen pl = chosen (Old pl)

  rom_none : (u : ℕ) (l : List ℕ) → X (element_at N u) ≡ false → concat_map old_chosen (map (Entry u) l) ≡ []
  unfolding old_chosen
  rom_none u [] e = refl
  rom_none u (c ∷ l) e = rw (chosen-entry u c ∙ only_false (X (element_at N u)) (val (Old (Entry u c))) e) (rom_none u l e)

  not_chosen : (u : ℕ) → u < size N → stays N f Z u ≡ false → X (element_at N u) ≡ false
  not_chosen u h e =
      ⊎_elim (λ t. absurd (true≢false (sym (stays_if N f Z u (⊎_elim (λ r. absurd (true≢false (sym t ∙ kept.no_register (element_at N u) r))) (λ r. r) (true_or_false (is_register (element_at N u)))) (staying u h t)) ∙ e)))
      (λ t. t) (true_or_false (X (element_at N u)))

  entries-chosen : (u : ℕ) → u < size N → concat_map old_chosen (entries_of N f Z u) ≡ only (X (element_at N u)) (old u)
  unfolding entries_of copies memory_at old_chosen
  entries-chosen u h =
      ⊎_elim
      (λ e. rw e (⊎_elim
      (λ t. rw t (rom_none u (distinct (concat_map (copies_of N f Z u) (below (size N)))) (kept.no_rom (element_at N u) t) ∙ sym (only_false (X (element_at N u)) (old u) (kept.no_rom (element_at N u) t))))
      (λ t. rw t (ap (λ (l : List A). l ++ []) (chosen-entry u 0) ∙ only_append (X (element_at N u)) (val (Old (Entry u 0))) ∙ only_value (X (element_at N u)) (val (Old (Entry u 0))) (old u) (agree u h)))
      (true_or_false (is_memory (element_at N u)))))
      (λ e. rw e (sym (only_false (X (element_at N u)) (old u) (not_chosen u h e))))
      (true_or_false (stays N f Z u))

  -- the entries of the first nodes
  entries_before : ℕ → List Spot
  entries_before u = map Old (concat_map (entries_of N f Z) (below u))

  entries_before_lem : (u : ℕ) → u ≤ size N → concat_map chosen (entries_before u) ≡ select (λ v. X (element_at N v)) old u
  unfolding entries_before old_chosen
  entries_before_lem u h =
      concat-map Old chosen (concat_map (entries_of N f Z) (below u))
      ∙ concat_map-concat_map old_chosen (entries_of N f Z) (below u)
      ∙ concat_map-cong (λ v. concat_map old_chosen (entries_of N f Z v)) (λ v. only (X (element_at N v)) (old v)) 0 u (λ v l. entries-chosen v (omega arith))

  -- what is chosen among the first spots of the rewritten netlist
  new-chosen : (pre : List Spot) → ((v : ℕ) → v < length pre → (v < length (spots N f Z)) × (get_or (spots N f Z) v no_spot ≡ get_or pre v no_spot))
      → select (λ v. X (element_at (gated_with N f Z) v)) (λ v. val (get_or (spots N f Z) v no_spot)) (length pre) ≡ concat_map chosen pre
  unfolding chosen element_at
  new-chosen pre h =
      concat_map-below_get_or (λ v. only (X (element_at (gated_with N f Z) v)) (val (get_or (spots N f Z) v no_spot))) chosen pre no_spot 0
      (λ v l. ap (λ (k : ℕ). only (X (element_at (gated_with N f Z) k)) (val (get_or (spots N f Z) k no_spot))) (zero-add v)
      ∙ ap (λ (n : Node). only (X n.element) (val (get_or (spots N f Z) v no_spot))) (node_new N f Z v (h v l).0)
      ∙ ap (λ (sp : Spot). only (X (spot_node N f Z sp).element) (val sp)) (h v l).1)

  later_none : concat_map chosen (later_spots N f Z) ≡ []
  later_none = concat_map_none chosen (later_spots N f Z) (λ i d l. chosen_added (get_or (later_spots N f Z) i d) (all_get_d Added (later_spots N f Z) i d (later_added N f Z) l))

  all_chosen : select (λ v. X (element_at (gated_with N f Z) v)) (λ v. val (get_or (spots N f Z) v no_spot)) (size (gated_with N f Z)) ≡ select (λ v. X (element_at N v)) old (size N)
  unfolding entry_places entries_before
  all_chosen =
      ap (select (λ v. X (element_at (gated_with N f Z) v)) (λ v. val (get_or (spots N f Z) v no_spot))) (size-new N f Z)
      ∙ new-chosen (spots N f Z) (λ v l. (l, refl))
      ∙ ap (concat_map chosen) (spots_are N f Z) ∙ concat_map-append chosen (map Old (entry_places N f Z)) (later_spots N f Z)
      ∙ ap₂ ◌++◌ (entries_before_lem (size N) (omega arith)) later_none
      ∙ append-nil _

  -- the entries of the first nodes stand first
  before_spots : (u : ℕ) → u ≤ size N → (v : ℕ) → v < length (entries_before u)
      → (v < length (spots N f Z)) × (get_or (spots N f Z) v no_spot ≡ get_or (entries_before u) v no_spot)
  unfolding entry_places entries_before
  before_spots u h v l =
      let whole : size N ≡ u + (size N - u) = omega arith in
      let parts : map Old (concat_map (entries_of N f Z) (below (size N))) ≡ map Old (concat_map (entries_of N f Z) (below u)) ++ map Old (concat_map (entries_of N f Z) (up_from (0 + u) (size N - u)))
      = ap (map Old) (ap (λ (k : ℕ). concat_map (entries_of N f Z) (up_from 0 k)) whole ∙ ap (concat_map (entries_of N f Z)) (up_from_split 0 u (size N - u))
      ∙ concat_map-append (entries_of N f Z) (below u) (up_from (0 + u) (size N - u)))
      ∙ map-append Old (concat_map (entries_of N f Z) (below u)) (concat_map (entries_of N f Z) (up_from (0 + u) (size N - u))) in
      rw (spots_are N f Z) (rw parts (stands_first (entries_before u) (map Old (concat_map (entries_of N f Z) (up_from (0 + u) (size N - u)))) (later_spots N f Z) v l))

  -- so as many are chosen before the entry of a node as before the node
  count_before : (u : ℕ) → u ≤ size N → count_below (λ v. X (element_at (gated_with N f Z) v)) (offset (entries_of N f Z) (below (size N)) u) ≡ count_below (λ v. X (element_at N v)) u
  unfolding entries_before
  count_before u h =
      rw (take_up_from 0 (size N) u h)
      (ap (count_below (λ v. X (element_at (gated_with N f Z) v))) (sym (length-map (concat_map (entries_of N f Z) (below u)) Old))
      ∙ sym (length-select (λ v. X (element_at (gated_with N f Z) v)) (λ v. val (get_or (spots N f Z) v no_spot)) (length (entries_before u)))
      ∙ ap length (new-chosen (entries_before u) (before_spots u h) ∙ entries_before_lem u h)
      ∙ length-select (λ v. X (element_at N v)) old u)

-- ---- the number of a node that is neither register nor ROM

module _ (N : Net) (f : Timing) (Z : ℕ → ℕ → ℕ) where
  -- an entry's number, taken apart
  pub record Decoded (i : ℕ) : Type 0 where
    pub node : ℕ
    pub copy : ℕ
    pub inside : node < size N
    pub among : copy < length (copies N f Z node)
    pub number : i ≡ offset (entries_of N f Z) (below (size N)) node + copy
    pub at : get_or (entry_places N f Z) i no_place ≡ Entry node (get_or (copies N f Z node) copy 0)

  pub decode : (i : ℕ) → i < length (entry_places N f Z) → Decoded i
  unfolding entry_places entries_of
  decode i h = from_part (in_part-below (entries_of N f Z) (size N) i h)
    where
      from_part : (k : ℕ) × (j : ℕ) × (k < size N) × (j < length (entries_of N f Z k)) × (i ≡ offset (entries_of N f Z) (below (size N)) k + j) → Decoded i
      from_part (k, j, hk, hj, e) =
          let l : j < length (copies N f Z k) = subst (λ (n : ℕ). j < n) (length-map (copies N f Z k) (Entry k)) hj in
          record {
            node = k;
            copy = j;
            inside = hk;
            among = l;
            number = e;
            at = ap (λ (n : ℕ). get_or (entry_places N f Z) n no_place) e
                ∙ get_or_concat_below (entries_of N f Z) (size N) k j hk hj no_place ∙ get_or_map-lt (Entry k) (copies N f Z k) j 0 no_place l;
          }

  entry_node_lem : {u c k d : ℕ} → Old (Entry u c) ≡ Old (Entry k d) → u ≡ k
  entry_node_lem e = cc

  not_later : (i u c : ℕ) → i < length (later_spots N f Z) → get_or (later_spots N f Z) i no_spot ≡ Old (Entry u c) → ⊥
  not_later i u c h e = subst Added e (all_get_d Added (later_spots N f Z) i no_spot (later_added N f Z) h)

  one_copy : (u j : ℕ) → is_memory (element_at N u) ≡ false → j < length (copies N f Z u) → j ≡ 0
  unfolding copies memory_at
  one_copy u j r l =
      ⊎_elim (λ e. let k : j < 1 = rw r at (rw e at l) in omega arith) (λ e. absurd (not-suc-le-zero (rw e at l))) (true_or_false (stays N f Z u))

  number_of_entry : (i u c : ℕ) → i < length (spots N f Z) → get_or (spots N f Z) i no_spot ≡ Old (Entry u c) → is_memory (element_at N u) ≡ false → (u < size N) × (i ≡ offset (entries_of N f Z) (below (size N)) u)
  number_of_entry i u c h e r =
      ⊎_elim (λ (l, k). let m : i < length (entry_places N f Z) = subst (λ (n : ℕ). i < n) (length-map (entry_places N f Z) Old) l in
      from_entry (decode i m) (at_spots ∙ k ∙ get_or_map-lt Old (entry_places N f Z) i no_place no_spot m))
      (λ (m, k, l, z). absurd (not_later m u c l (sym z ∙ sym at_spots ∙ e)))
      (either no_spot (map Old (entry_places N f Z)) (later_spots N f Z) i (subst (λ (l : List Spot). i < length l) (spots_are N f Z) h))
    where
      at_spots : get_or (spots N f Z) i no_spot ≡ get_or (map Old (entry_places N f Z) ++ later_spots N f Z) i no_spot
      at_spots = ap (λ (l : List Spot). get_or l i no_spot) (spots_are N f Z)

      from_entry : Decoded i → get_or (spots N f Z) i no_spot ≡ Old (get_or (entry_places N f Z) i no_place) → (u < size N) × (i ≡ offset (entries_of N f Z) (below (size N)) u)
      from_entry d k =
          let same-node : u ≡ d.node = entry_node_lem (sym e ∙ k ∙ ap Old d.at) in
          let none : d.copy ≡ 0 = one_copy d.node d.copy (subst (λ (n : ℕ). is_memory (element_at N n) ≡ false) same-node r) d.among in
          (subst (λ (n : ℕ). n < size N) (sym same-node) d.inside, d.number ∙ rw none (add-zero _) ∙ ap (offset (entries_of N f Z) (below (size N))) (sym same-node))

  input_no_rom : (e : Element) → is_input e ≡ true → is_memory e ≡ false
  input_no_rom e h = ⊎_elim (λ t. absurd (true≢false (sym h ∙ inputs_kept.no_rom e t))) (λ t. t) (true_or_false (is_memory e))

  module _ (ok : Retimes N f) where
    pub ports_kept : (i u c : ℕ) → i < length (spots N f Z) → get_or (spots N f Z) i no_spot ≡ Old (Entry u c) → is_input (element_at N u) ≡ true → port_of (gated_with N f Z) i ≡ port_of N u
    unfolding port_of
    ports_kept i u c h e k = at_number_lem (number_of_entry i u c h e (input_no_rom (element_at N u) k))
      where
        at_number_lem : (u < size N) × (i ≡ offset (entries_of N f Z) (below (size N)) u) → port_of (gated_with N f Z) i ≡ port_of N u
        at_number_lem (l, m) = ap (count_below (λ v. is_input (element_at (gated_with N f Z) v))) m ∙ count_before N f Z is_input inputs_kept {A = ℕ} (λ sp. 0) (λ v. 0) (λ v a b. refl) ok.inputs_stay u (omega arith)

    -- ---- the words at the output ports

    output_no_rom : (u : ℕ) → is_output (element_at N u) ≡ true → memory_at N u ≡ false
    unfolding memory_at
    output_no_rom u e = ⊎_elim (λ k. absurd (true≢false (sym e ∙ outputs_kept.no_rom (element_at N u) k))) (λ k. k) (true_or_false (is_memory (element_at N u)))

    output_value : (B : ℕ → ℕ → ℕ) (t u : ℕ) → u < size N → is_output (element_at N u) ≡ true → spot_value N f Z B t (Old (Entry u 0)) ≡ B t u
    unfolding spot_value value
    output_value B t u h e = rw (output_no_rom u e) (ap (λ (k : ℕ). B k u) (omega (arith, ok.outputs u h e)))

    -- an output port's word is spoken of from the first clock on
    output_valid : (t i : ℕ) (sp : Spot) → is_output (spot_node N f Z sp).element ≡ true → ((u c : ℕ) → sp ≡ Old (Entry u c) → u < size N) → SpotValid N f Z t sp
    unfolding spot_node SpotValid Valid
    output_valid t i (Old (Entry u c)) e within =
        let o : is_output (element_at N u) ≡ true = sym (outputs_kept.new (element_at N u) (new_table N f Z u) c) ∙ e in
        inr (rw (output_no_rom u o) (omega (arith, ok.outputs u (within u c refl) o)))
    output_valid t i (Old (Reg x c p j)) e within = absurd (false≢true e)
    output_valid t i One e within = tt
    output_valid t i (Chain k) e within = tt
    output_valid t i (Shown x c p k) e within = tt
    output_valid t i (Pick x c p k) e within = tt

    pub outputs_alike : (B R : ℕ → ℕ → ℕ) → ((t i : ℕ) → i < size (gated_with N f Z) → SpotValid N f Z t (get_or (spots N f Z) i no_spot) → R t i ≡ spot_value N f Z B t (get_or (spots N f Z) i no_spot))
        → (t : ℕ) → outputs_of (gated_with N f Z) (R t) ≡ outputs_of N (B t)
    unfolding outputs_of element_at
    outputs_alike B R words t =
        concat_map-cong (λ v. only (is_output (element_at (gated_with N f Z) v)) (R t v)) (λ v. only (is_output (element_at (gated_with N f Z) v)) (spot_value N f Z B t (get_or (spots N f Z) v no_spot))) 0 (size (gated_with N f Z))
        (λ v l. let h : v < size (gated_with N f Z) = omega arith in
        let k : v < length (spots N f Z) = rw (size-new N f Z) at h in
        only_value (is_output (element_at (gated_with N f Z) v)) (R t v) (spot_value N f Z B t (get_or (spots N f Z) v no_spot))
        (λ e. words t v h (output_valid t v (get_or (spots N f Z) v no_spot) (subst (λ (n : Node). is_output n.element ≡ true) (node_new N f Z v k) e)
        (λ u c a. (subst (λ (sp : Spot). SpotSound N f Z sp) a (spots_sound N f Z v k)).inside))))
        ∙ all_chosen N f Z is_output outputs_kept (spot_value N f Z B t) (B t) (output_value B t) ok.outputs_stay

    -- ---- the widths of the ports

    kept_widths : (X : Element → Bool) → Kept X → ((u : ℕ) → u < size N → X (element_at N u) ≡ true → f.keeps u ≡ true)
        → select (λ v. X (element_at (gated_with N f Z) v)) (λ v. width_at (gated_with N f Z) v) (size (gated_with N f Z)) ≡ select (λ v. X (element_at N v)) (λ v. width_at N v) (size N)
    unfolding spot_node width_at
    kept_widths X kept staying =
        concat_map-cong (λ v. only (X (element_at (gated_with N f Z) v)) (width_at (gated_with N f Z) v))
        (λ v. only (X (element_at (gated_with N f Z) v)) (spot_node N f Z (get_or (spots N f Z) v no_spot)).width) 0 (size (gated_with N f Z))
        (λ v l. ap (λ (n : Node). only (X (element_at (gated_with N f Z) v)) n.width) (node_new N f Z v (rw (size-new N f Z) at (rw (zero-add (size (gated_with N f Z))) at l))))
        ∙ all_chosen N f Z X kept (λ sp. (spot_node N f Z sp).width) (width_at N) (λ u h e. refl) staying

    pub input_widths_lem : input_widths (gated_with N f Z) ≡ input_widths N
    unfolding input_widths
    input_widths_lem = kept_widths is_input inputs_kept ok.inputs_stay

    pub output_widths_lem : output_widths (gated_with N f Z) ≡ output_widths N
    unfolding output_widths
    output_widths_lem = kept_widths is_output outputs_kept ok.outputs_stay
