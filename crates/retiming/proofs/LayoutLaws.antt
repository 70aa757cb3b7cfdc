-- Laws of what specs/Layout.antt defines. Assumes nothing.
use Rattle.std.specs.Prelude.{◌≡◌, ◌⊎◌, not, List, ◌++◌, length}
use Rattle.std.proofs.Math.Path.{ap}
use Rattle.std.proofs.Common.{◌∙◌, subst, inl, inr, length-append, get_or-append-add, lt→ltb}
use Rattle.std.proofs.Math.Logic.{⊎_elim}
use Rattle.std.proofs.Math.Bool.{true, false}
use Rattle.std.proofs.lemmas.Bool.{false≢true}
use Prim.Native.Nat.{ℕ, suc, ◌+◌, ◌-◌, ◌≤◌, ◌<◌}
use native.Mathlib.Omega.{arith}
use Rattle.std.proofs.Math.ListN.{get_or, get_or-append}
use Rattle.std.proofs.lemmas.List.{length-map}
use Rattle.std.proofs.Math.Dec.{ltb, ltb→lt}
use Rattle.lists.specs.Lists.{below, concat_map, offset, has, find}
use Rattle.lists.proofs.BelowLaws.{and_right, T→true, true→T, true_or_false, lt_or_le, eqb_self, length_listed, get_or_listed, get_or_map-lt}
use Rattle.lists.proofs.ListsLaws.{get_or_concat_map, offset-lt, get_or_concat_below, offset-below-lt, has_concat_below, has_distinct, find-lt, get_or_find, All, all_append, all_get_d, all_concat_below, all_concat_map, all_map, all_listed}
use Rattle.netlist.specs.Net.{Net, size, element_at, source, operands, is_register, Sourced}
use Rattle.retiming.specs.Rewrite.{Timing, Place, Entry, Reg, root, memory_at, count_on, copy_on, copies_at, copies_of, copies, stays}
use Rattle.retiming.specs.Rewrite.{wires_of, wires_all, wire_places, wire_number, entries_of, regs_on, entry_places, reg_places, places, number_of, along}
use Rattle.retiming.specs.Wires.{ServesKept, Rooted}
use Rattle.retiming.proofs.Wires.{root_within, root_kept}
use Rattle.retiming.specs.Layout.{no_place, At, Stands, Sound, Numbered}

pub at_left : {A : Type 0} (d : A) (l m : List A) (i : ℕ) (a : A) → At d l i a → At d (l ++ m) i a
at_left d l m i a (h, e) = (simp length-append (omega arith), get_or-append l m d i h ∙ e)

pub at_right : {A : Type 0} (d : A) (l m : List A) (i : ℕ) (a : A) → At d m i a → At d (l ++ m) (length l + i) a
at_right d l m i a (h, e) = (simp length-append (omega arith), get_or-append-add l m i d ∙ e)

-- what stands in two lists is in the one or in the other
pub either : {A : Type 0} (d : A) (l r : List A) (i : ℕ) → i < length (l ++ r) → ((i < length l) × (get_or (l ++ r) i d ≡ get_or l i d)) ⊎ ((m : ℕ) × (i ≡ length l + m) × (m < length r) × (get_or (l ++ r) i d ≡ get_or r m d))
either d l r i h =
    ⊎_elim (λ k. inl (k, get_or-append l r d i k))
    (λ k. let m : ℕ = i - length l in
    let e : i ≡ length l + m = omega arith in
    inr (m, e, omega (arith, simp length-append at h), ap (λ (n : ℕ). get_or (l ++ r) n d) e ∙ get_or-append-add l r m d)) (lt_or_le i (length l))

module _ (N : Net) (f : Timing) (Z : ℕ → ℕ → ℕ) where
  -- ---- every place is sound

  pub stays_is : (x : ℕ) → stays N f Z x ≡ true → (is_register (element_at N x) ≡ false) × (f.keeps x ≡ true)
  unfolding stays
  stays_is x e = (⊎_elim (λ t. absurd (false≢true (rw t at e))) (λ t. t) (true_or_false (is_register (element_at N x))), and_right (not (is_register (element_at N x))) (f.keeps x) e)

  pub stays_if : (x : ℕ) → is_register (element_at N x) ≡ false → f.keeps x ≡ true → stays N f Z x ≡ true
  unfolding stays
  stays_if x o k = rw o k

  pub copies_stay : (x c : ℕ) → has c (copies N f Z x) ≡ true → stays N f Z x ≡ true
  unfolding copies
  copies_stay x c e = ⊎_elim (λ t. t) (λ t. absurd (false≢true (rw t at e))) (true_or_false (stays N f Z x))

  stands : (x c : ℕ) → x < size N → has c (copies N f Z x) ≡ true → Stands N f Z x c
  stands x c h e = let r = stays_is x (copies_stay x c e) in record { inside = h; other = r.0; kept = r.1; copy = e }

  entries_sound : All (Sound N f Z) (entry_places N f Z)
  unfolding entry_places entries_of
  entries_sound = all_concat_below (Sound N f Z) (entries_of N f Z) (size N) (λ u h. all_map (Sound N f Z) (Entry u) (copies N f Z u) (λ c e. stands u c h e))

  -- what holds of all places of a wire, for each wire
  pub all_wires : {A : Type 0} (P : A → Type 0) (g : ℕ → ℕ → ℕ → List A) → ((x c p : ℕ) → Stands N f Z x c → p < operands (element_at N x) → All P (g x c p)) → All P (wire_places N f Z g)
  unfolding wire_places wires_all wires_of
  all_wires P g a =
      all_concat_below P (wires_all N f Z g) (size N) (λ x h.
      all_concat_map P (wires_of N f Z g x) (copies N f Z x) (λ c e.
      all_concat_below P (g x c) (operands (element_at N x)) (λ p q. a x c p (stands x c h e) q)))

  regs_sound : All (Sound N f Z) (reg_places N f Z)
  unfolding reg_places regs_on
  regs_sound = all_wires (Sound N f Z) (regs_on N f Z) (λ x c p s q. all_listed (Sound N f Z) (λ i. Reg x c p (count_on N f Z x p - suc i)) (count_on N f Z x p) (λ i k. (s, q, omega arith)))

  pub all_places_sound : All (Sound N f Z) (places N f Z)
  unfolding places
  all_places_sound = all_append (Sound N f Z) (entry_places N f Z) (reg_places N f Z) entries_sound regs_sound

  pub places_sound : (i : ℕ) → i < length (places N f Z) → Sound N f Z (get_or (places N f Z) i no_place)
  places_sound i h = all_get_d (Sound N f Z) (places N f Z) i no_place all_places_sound h

  numbered_at : (pl : Place) → At no_place (places N f Z) (number_of N f Z pl) pl → Numbered N f Z pl
  numbered_at pl (h, e) = record { within = h; at = e }

  module _ (x c : ℕ) (s : Stands N f Z x c) where
    find_copy : find c (copies N f Z x) < length (copies N f Z x)
    find_copy = find-lt c (copies N f Z x) s.copy

    entry_lt : find c (copies N f Z x) < length (entries_of N f Z x)
    unfolding entries_of
    entry_lt = rw (length-map (copies N f Z x) (Entry x)) find_copy

    entry_at : get_or (entries_of N f Z x) (find c (copies N f Z x)) no_place ≡ Entry x c
    unfolding entries_of
    entry_at = get_or_map-lt (Entry x) (copies N f Z x) (find c (copies N f Z x)) 0 no_place find_copy ∙ ap (Entry x) (get_or_find c (copies N f Z x) 0 s.copy)

    entry_found : At no_place (entry_places N f Z) (number_of N f Z (Entry x c)) (Entry x c)
    unfolding number_of entry_places
    entry_found = (
      offset-below-lt (entries_of N f Z) (size N) x (find c (copies N f Z x)) s.inside entry_lt,
      get_or_concat_below (entries_of N f Z) (size N) x (find c (copies N f Z x)) s.inside entry_lt no_place ∙ entry_at,
    )

    -- no register has so low a number
    pub entry_within : number_of N f Z (Entry x c) < length (entry_places N f Z)
    entry_within = entry_found.0

    -- what stands on a wire
    module _ {A : Type 0} (d : A) (g : ℕ → ℕ → ℕ → List A) (p i : ℕ) (q : p < operands (element_at N x)) (pl : A) (found : At d (g x c p) i pl) where
      place₁ : ℕ
      place₁ = offset (g x c) (below (operands (element_at N x))) p + i

      at₁ : At d (wires_of N f Z g x c) place₁ pl
      unfolding wires_of place₁
      at₁ = (offset-below-lt (g x c) (operands (element_at N x)) p i q found.0, get_or_concat_below (g x c) (operands (element_at N x)) p i q found.0 d ∙ found.1)

      place₂ : ℕ
      place₂ = offset (wires_of N f Z g x) (copies N f Z x) (find c (copies N f Z x)) + place₁

      copy_at : get_or (copies N f Z x) (find c (copies N f Z x)) 0 ≡ c
      copy_at = get_or_find c (copies N f Z x) 0 s.copy

      at₂ : At d (wires_all N f Z g x) place₂ pl
      unfolding wires_all place₂
      at₂ = (
        offset-lt (wires_of N f Z g x) (copies N f Z x) (find c (copies N f Z x)) place₁ 0 find_copy (rw copy_at at₁.0),
        get_or_concat_map (wires_of N f Z g x) (copies N f Z x) (find c (copies N f Z x)) place₁ 0 d find_copy (rw copy_at at₁.0)
            ∙ ap (λ (k : ℕ). get_or (wires_of N f Z g x k) place₁ d) copy_at ∙ at₁.1,
      )

      at₃ : At d (wire_places N f Z g) (offset (wires_all N f Z g) (below (size N)) x + place₂) pl
      unfolding wire_places
      at₃ = (
        offset-below-lt (wires_all N f Z g) (size N) x place₂ s.inside at₂.0,
        get_or_concat_below (wires_all N f Z g) (size N) x place₂ s.inside at₂.0 d ∙ at₂.1,
      )

      wire_sum : offset (wires_all N f Z g) (below (size N)) x + place₂ ≡ wire_number N f Z g x c p + i
      unfolding wire_number place₂ place₁
      wire_sum = omega arith

      pub wire_at_lem : At d (wire_places N f Z g) (wire_number N f Z g x c p + i) pl
      wire_at_lem = subst (λ (k : ℕ). At d (wire_places N f Z g) k pl) wire_sum at₃

    module _ (p : ℕ) (q : p < operands (element_at N x)) where
      reg_at : (j : ℕ) → j < count_on N f Z x p → At no_place (regs_on N f Z x c p) (count_on N f Z x p - suc j) (Reg x c p j)
      unfolding regs_on
      reg_at j l = (
        rw (length_listed (λ i. Reg x c p (count_on N f Z x p - suc i)) (count_on N f Z x p)) (omega arith),
        get_or_listed (λ i. Reg x c p (count_on N f Z x p - suc i)) (count_on N f Z x p) (count_on N f Z x p - suc j) no_place (omega arith) ∙ ap (Reg x c p) (omega arith),
      )

      reg_found : (j : ℕ) → j < count_on N f Z x p → At no_place (reg_places N f Z) (wire_number N f Z (regs_on N f Z) x c p + (count_on N f Z x p - suc j)) (Reg x c p j)
      unfolding reg_places
      reg_found j l = wire_at_lem no_place (regs_on N f Z) p (count_on N f Z x p - suc j) q (Reg x c p j) (reg_at j l)

  -- in all places
  in_entries : (i : ℕ) (pl : Place) → At no_place (entry_places N f Z) i pl → At no_place (places N f Z) i pl
  unfolding places
  in_entries i pl a = at_left no_place (entry_places N f Z) (reg_places N f Z) i pl a

  in_regs : (i : ℕ) (pl : Place) → At no_place (reg_places N f Z) i pl → At no_place (places N f Z) (length (entry_places N f Z) + i) pl
  unfolding places
  in_regs i pl a = at_right no_place (entry_places N f Z) (reg_places N f Z) i pl a

  pub numbered : (pl : Place) → Sound N f Z pl → Numbered N f Z pl
  unfolding number_of
  numbered (Entry u c) s = numbered_at (Entry u c) (in_entries _ (Entry u c) (entry_found u c s))
  numbered (Reg x c p j) (s, q, l) = numbered_at (Reg x c p j) (in_regs _ (Reg x c p j) (reg_found x c s p q j l))

  -- ---- the places along a wire are sound

  wanted_here : (x p : ℕ) → stays N f Z x ≡ true → p < operands (element_at N x)
      → has (copy_on N f Z x p) (copies_of N f Z (root N (source N x p)) x) ≡ true
  unfolding copies_of copies_at
  wanted_here x p o q =
      rw o (has_concat_below (copies_at N f Z (root N (source N x p)) x) (copy_on N f Z x p) (operands (element_at N x)) p q
      (rw (eqb_self (root N (source N x p))) (rw (eqb_self (copy_on N f Z x p)))))

  pub copy_none : (x p : ℕ) → memory_at N (root N (source N x p)) ≡ false → copy_on N f Z x p ≡ 0
  unfolding copy_on
  copy_none x p t = rw t

  pub copy_on_lem : (x p : ℕ) → x < size N → stays N f Z x ≡ true → p < operands (element_at N x)
      → stays N f Z (root N (source N x p)) ≡ true → has (copy_on N f Z x p) (copies N f Z (root N (source N x p))) ≡ true
  unfolding copies
  copy_on_lem x p h o q r =
      rw r (⊎_elim
      (λ t. rw t (has_distinct (copy_on N f Z x p) (concat_map (copies_of N f Z (root N (source N x p))) (below (size N)))
      (has_concat_below (copies_of N f Z (root N (source N x p))) (copy_on N f Z x p) (size N) x h (wanted_here x p o q))))
      (λ t. rw t (rw (copy_none x p t))) (true_or_false (memory_at N (root N (source N x p)))))

  pub along_reg : (x c p j : ℕ) → j < count_on N f Z x p → along N f Z x c p j ≡ Reg x c p j
  unfolding along
  along_reg x c p j l = let e : ltb j (count_on N f Z x p) ≡ true = T→true (lt→ltb j (count_on N f Z x p) l) in rw e

  pub along-end : (x c p j : ℕ) → count_on N f Z x p ≤ j → along N f Z x c p j ≡ Entry (root N (source N x p)) (copy_on N f Z x p)
  unfolding along
  along-end x c p j l = ⊎_elim (λ t. absurd (omega (arith, ltb→lt j (count_on N f Z x p) (true→T t)))) (λ t. rw t) (true_or_false (ltb j (count_on N f Z x p)))

  module _ (sourced : Sourced N) (rooted : Rooted N) (serves : ServesKept N f) (x c p : ℕ) (s : Stands N f Z x c) (q : p < operands (element_at N x)) where
    -- the wire's root stands, as the copy that the wire wants
    pub root_stands : Stands N f Z (root N (source N x p)) (copy_on N f Z x p)
    unfolding Rooted Sourced
    root_stands =
        let r : is_register (element_at N (root N (source N x p))) ≡ false = rooted (source N x p) (sourced x p s.inside q) in
        let k : f.keeps (root N (source N x p)) ≡ true = root_kept N sourced f serves x p s.inside s.kept q in
        record {
          inside = root_within N sourced (source N x p) (sourced x p s.inside q);
          other = r;
          kept = k;
          copy = copy_on_lem x p s.inside (stays_if x s.other s.kept) q (stays_if (root N (source N x p)) r k);
        }

    pub along_sound : (j : ℕ) → Sound N f Z (along N f Z x c p j)
    along_sound j = ⊎_elim (λ l. rw (along_reg x c p j l) (s, q, l)) (λ l. rw (along-end x c p j l) root_stands) (lt_or_le j (count_on N f Z x p))
