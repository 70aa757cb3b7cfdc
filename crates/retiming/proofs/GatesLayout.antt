-- Laws of what specs/GatesLayout.antt defines. Assumes nothing.
use Rattle.std.specs.Prelude.{◌≡◌, refl, ◌⊎◌, List, [], ◌∷◌, ◌++◌, map, length, get_or, ltb}
use Rattle.std.proofs.Math.Path.{sym, ap, subst}
use Rattle.std.proofs.Common.{◌∙◌, not-suc-le-zero, lt-ltb, ltb-true, le-ltb}
use Rattle.std.proofs.Math.Logic.{inl, inr, ⊎_elim}
use Rattle.std.proofs.Math.Bool.{true}
use Prim.Native.Nat.{ℕ, zero, suc, ◌+◌, ◌-◌, ◌≤◌, ◌<◌, zero-le, suc-le-suc}
use native.Mathlib.Omega.{arith}
use Rattle.std.proofs.lemmas.List.{length-map}
use Rattle.lists.specs.Lists.{below, offset, largest}
use Rattle.lists.proofs.BelowLaws.{true_or_false, lt_or_le, length_listed, get_or_listed, get_or_map-lt, largest-le, largest_is}
use Rattle.lists.proofs.ListsLaws.{get_or_concat_below, offset-below-lt, All, all_append, all_get_d, all_concat_below, all_listed}
use Rattle.netlist.specs.Net.{Net, size, element_at, source, operands, Sourced}
use Rattle.retiming.specs.Rewrite.{Timing, Place, root, wire_number, places, number_of, along, stays}
use Rattle.retiming.specs.Gates.{Spot, Old, One, Chain, Shown, Pick, first_on, last_on, shown_on, steers_on, steers_of, chain_length, pick_pair, picks_on, chain_spots, pick_spots, spots, spot_number, picked, chained}
use Rattle.retiming.specs.Wires.{ServesKept, Rooted}
use Rattle.retiming.specs.Layout.{no_place, At, Stands, Numbered}
use Rattle.retiming.proofs.LayoutLaws.{at_left, at_right, all_places_sound, stays_if, all_wires, numbered, wire_at_lem, along_sound}
use Rattle.retiming.specs.GatesLayout.{no_spot, SpotSound, SpotNumbered, Steered}

pub all_old : (P : Spot → Type 0) (l : List Place) → All (λ pl. P (Old pl)) l → All P (map Old l)
all_old P [] a = a
all_old P (pl ∷ l) (a, b) = (a, all_old P l b)

module _ (N : Net) (f : Timing) (Z : ℕ → ℕ → ℕ) where
  -- ---- every spot is sound

  chain_sound : All (SpotSound N f Z) (chain_spots N f Z)
  unfolding chain_spots
  chain_sound =
      ⊎_elim (λ t. rw t (ltb-true 0 (chain_length N f Z) t, all_listed (SpotSound N f Z) Chain (chain_length N f Z) (λ i k. k))) (λ t. rw t tt) (true_or_false (ltb 0 (chain_length N f Z)))

  picks_sound : All (SpotSound N f Z) (pick_spots N f Z)
  unfolding pick_spots picks_on pick_pair
  picks_sound = all_wires N f Z (SpotSound N f Z) (picks_on N f Z) (λ x c p s q. all_concat_below (SpotSound N f Z) (pick_pair N f Z x c p) (shown_on N f Z x p) (λ k l. ((s, q, l), ((s, q, l), tt))))

  pub spots_sound : (i : ℕ) → i < length (spots N f Z) → SpotSound N f Z (get_or (spots N f Z) i no_spot)
  unfolding spots
  spots_sound i h =
      all_get_d (SpotSound N f Z) (spots N f Z) i no_spot
      (all_append (SpotSound N f Z) (map Old (places N f Z)) (chain_spots N f Z ++ pick_spots N f Z) (all_old (SpotSound N f Z) (places N f Z) (all_places_sound N f Z))
      (all_append (SpotSound N f Z) (chain_spots N f Z) (pick_spots N f Z) chain_sound picks_sound)) h

  numbered_at : (sp : Spot) → At no_spot (spots N f Z) (spot_number N f Z sp) sp → SpotNumbered N f Z sp
  numbered_at sp (h, e) = record { within = h; at = e }

  olds_are : length (map Old (places N f Z)) ≡ length (places N f Z)
  olds_are = length-map (places N f Z) Old

  in_old : (pl : Place) → Numbered N f Z pl → At no_spot (spots N f Z) (number_of N f Z pl) (Old pl)
  unfolding spots
  in_old pl n =
      at_left no_spot (map Old (places N f Z)) (chain_spots N f Z ++ pick_spots N f Z) (number_of N f Z pl) (Old pl)
      (rw olds_are n.within, get_or_map-lt Old (places N f Z) (number_of N f Z pl) no_place no_spot n.within ∙ ap Old n.at)

  in_chain : (i : ℕ) (sp : Spot) → At no_spot (chain_spots N f Z) i sp → At no_spot (spots N f Z) (length (places N f Z) + i) sp
  unfolding spots
  in_chain i sp a =
      subst (λ (k : ℕ). At no_spot (map Old (places N f Z) ++ (chain_spots N f Z ++ pick_spots N f Z)) (k + i) sp) olds_are
      (at_right no_spot (map Old (places N f Z)) (chain_spots N f Z ++ pick_spots N f Z) i sp (at_left no_spot (chain_spots N f Z) (pick_spots N f Z) i sp a))

  in_picks : (i : ℕ) (sp : Spot) → At no_spot (pick_spots N f Z) i sp → At no_spot (spots N f Z) (length (places N f Z) + (length (chain_spots N f Z) + i)) sp
  unfolding spots
  in_picks i sp a =
      subst (λ (k : ℕ). At no_spot (map Old (places N f Z) ++ (chain_spots N f Z ++ pick_spots N f Z)) (k + (length (chain_spots N f Z) + i)) sp) olds_are
      (at_right no_spot (map Old (places N f Z)) (chain_spots N f Z ++ pick_spots N f Z) (length (chain_spots N f Z) + i) sp (at_right no_spot (chain_spots N f Z) (pick_spots N f Z) i sp a))

  chain_at : (i : ℕ) (sp : Spot) → 0 < chain_length N f Z → At no_spot (One ∷ map Chain (below (chain_length N f Z))) i sp → At no_spot (chain_spots N f Z) i sp
  unfolding chain_spots
  chain_at i sp l a = rw (lt-ltb 0 (chain_length N f Z) l) a

  one_found : 0 < chain_length N f Z → At no_spot (chain_spots N f Z) 0 One
  one_found l = chain_at 0 One l (suc-le-suc zero-le, refl)

  link_found : (i : ℕ) → i < chain_length N f Z → At no_spot (chain_spots N f Z) (suc i) (Chain i)
  link_found i l = chain_at (suc i) (Chain i) (omega arith) (suc-le-suc (rw (length_listed Chain (chain_length N f Z)) l), get_or_listed Chain (chain_length N f Z) i no_spot l)

  module _ (x c p k m : ℕ) (s : Stands N f Z x c) (q : p < operands (element_at N x)) (l : k < shown_on N f Z x p) (sp : Spot) (found : At no_spot (pick_pair N f Z x c p k) m sp) where
    pick_at : At no_spot (picks_on N f Z x c p) (offset (pick_pair N f Z x c p) (below (shown_on N f Z x p)) k + m) sp
    unfolding picks_on
    pick_at = (
      offset-below-lt (pick_pair N f Z x c p) (shown_on N f Z x p) k m l found.0,
      get_or_concat_below (pick_pair N f Z x c p) (shown_on N f Z x p) k m l found.0 no_spot ∙ found.1,
    )

    pick_found : At no_spot (pick_spots N f Z) (wire_number N f Z (picks_on N f Z) x c p + (offset (pick_pair N f Z x c p) (below (shown_on N f Z x p)) k + m)) sp
    unfolding pick_spots
    pick_found = wire_at_lem N f Z x c s no_spot (picks_on N f Z) p (offset (pick_pair N f Z x c p) (below (shown_on N f Z x p)) k + m) q sp pick_at

  pub spot-numbered : (sp : Spot) → SpotSound N f Z sp → SpotNumbered N f Z sp
  unfolding spot_number pick_pair
  spot-numbered (Old pl) s = numbered_at (Old pl) (in_old pl (numbered N f Z pl s))
  spot-numbered One l = numbered_at One (in_chain 0 One (one_found l))
  spot-numbered (Chain i) l = numbered_at (Chain i) (in_chain (suc i) (Chain i) (link_found i l))
  spot-numbered (Shown x c p k) (s, q, l) = numbered_at (Shown x c p k) (in_picks _ (Shown x c p k) (pick_found x c p k 0 s q l (Shown x c p k) (suc-le-suc zero-le, refl)))
  spot-numbered (Pick x c p k) (s, q, l) = numbered_at (Pick x c p k) (in_picks _ (Pick x c p k) (pick_found x c p k 1 s q l (Pick x c p k) (suc-le-suc (suc-le-suc zero-le), refl)))

  -- ---- the gates of a wire

  pub picked-gate : (x c p k : ℕ) → k < shown_on N f Z x p → picked N f Z x c p k ≡ Pick x c p k
  unfolding picked
  picked-gate x c p k l = rw (lt-ltb k (shown_on N f Z x p) l)

  pub picked_wire : (x c p k : ℕ) → shown_on N f Z x p ≤ k → picked N f Z x c p k ≡ Old (along N f Z x c p 0)
  unfolding picked
  picked_wire x c p k l = rw (le-ltb k (shown_on N f Z x p) l)

  pub shown_range : (x p : ℕ) → 0 < shown_on N f Z x p → first_on N f Z x + shown_on N f Z x p ≡ last_on N f Z x p
  unfolding shown_on
  shown_range x p l =
      ⊎_elim (λ t. let k : 0 < last_on N f Z x p - first_on N f Z x = rw t at l in rw t (omega arith)) (λ t. absurd (not-suc-le-zero (rw t at l)))
      (true_or_false (ltb (f.lead (root N (source N x p))) f.origin))

  pub shown_none : (x p : ℕ) → shown_on N f Z x p ≤ 0 → (f.origin ≤ f.lead (root N (source N x p))) ⊎ (last_on N f Z x p ≤ first_on N f Z x)
  unfolding shown_on
  shown_none x p l =
      ⊎_elim (λ m. inr (let k : last_on N f Z x p - first_on N f Z x ≤ 0 = rw (lt-ltb (f.lead (root N (source N x p))) f.origin m) at l in omega arith)) (λ m. inl m)
      (lt_or_le (f.lead (root N (source N x p))) f.origin)

  -- from a source that is not late there are none
  pub shown_early : (x p : ℕ) → f.origin ≤ f.lead (root N (source N x p)) → shown_on N f Z x p ≡ 0
  unfolding shown_on
  shown_early x p l = rw (le-ltb (f.lead (root N (source N x p))) f.origin l)

  -- ---- the chain

  steers_is : (x p : ℕ) → 0 < shown_on N f Z x p → steers_on N f Z x p ≡ last_on N f Z x p
  unfolding steers_on
  steers_is x p l = rw (lt-ltb 0 (shown_on N f Z x p) l)

  pub steers_none : (x p : ℕ) → shown_on N f Z x p ≤ 0 → steers_on N f Z x p ≡ 0
  unfolding steers_on
  steers_none x p l = rw (le-ltb 0 (shown_on N f Z x p) l)

  steers_of_lem : (x : ℕ) → stays N f Z x ≡ true → steers_of N f Z x ≡ largest (operands (element_at N x)) (steers_on N f Z x)
  unfolding steers_of
  steers_of_lem x e = rw e

  pub steered : 0 < chain_length N f Z → Steered N f Z
  unfolding chain_length steers_of
  steered l = ⊎_elim (λ z. absurd (omega (arith, z))) (λ (x, h, e). by_reader_lem x h e) (largest_is (size N) (steers_of N f Z))
    where
      by_operand : (x p : ℕ) → x < size N → stays N f Z x ≡ true → p < operands (element_at N x) → chain_length N f Z ≡ steers_on N f Z x p → Steered N f Z
      by_operand x p h o q e =
          ⊎_elim
          (λ m. record { reader = x; operand = p; inside = h; staying = o; used = q; shown = m; length_is = sym (e ∙ steers_is x p m) })
          (λ m. absurd (omega (arith, e, steers_none x p m))) (lt_or_le 0 (shown_on N f Z x p))

      by_reader_lem : (x : ℕ) → x < size N → chain_length N f Z ≡ steers_of N f Z x → Steered N f Z
      by_reader_lem x h e =
          ⊎_elim
          (λ o. ⊎_elim (λ z. absurd (omega (arith, e, steers_of_lem x o, z))) (λ (p, q, k). by_operand x p h o q (e ∙ steers_of_lem x o ∙ k)) (largest_is (operands (element_at N x)) (steers_on N f Z x)))
          (λ o. let z : steers_of N f Z x ≡ 0 = rw o in absurd (omega (arith, e, z))) (true_or_false (stays N f Z x))

  pub chained_sound : (i : ℕ) → i < chain_length N f Z → SpotSound N f Z (chained N f Z i)
  unfolding chained
  chained_sound zero l = l
  chained_sound (suc i) l = omega arith

  module _ (sourced : Sourced N) (rooted : Rooted N) (serves : ServesKept N f) (x c p : ℕ) (s : Stands N f Z x c) (q : p < operands (element_at N x)) where
    pub picked_sound : (k : ℕ) → SpotSound N f Z (picked N f Z x c p k)
    picked_sound k = ⊎_elim (λ l. rw (picked-gate x c p k l) (s, q, l)) (λ l. rw (picked_wire x c p k l) (along_sound N f Z sourced rooted serves x c p s q 0)) (lt_or_le k (shown_on N f Z x p))

    -- the chain is long enough
    pub chain_long : (k : ℕ) → k < shown_on N f Z x p → first_on N f Z x + k < chain_length N f Z
    unfolding chain_length
    chain_long k l =
        omega (
          arith,
          steers_is x p (omega arith),
          shown_range x p (omega arith),
          steers_of_lem x (stays_if N f Z x s.other s.kept),
          largest-le (operands (element_at N x)) (steers_on N f Z x) p q,
          largest-le (size N) (steers_of N f Z) x s.inside,
        )
