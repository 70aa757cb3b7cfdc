-- Every node of a file with gates stands at the number of its spot: spots and numbers are one to one. Assumes nothing.
use Rattle.std.specs.Prelude.{◌≡◌, ltb}
use Rattle.std.proofs.Math.Path.{refl, sym, ap, subst}
use Rattle.std.proofs.Common.{◌∙◌, not-suc-le-zero, le_of_suc-le-suc, arith}
use Rattle.std.proofs.Math.Logic.{⊎_elim}
use mathlib.Core.List.{◌∷◌, ◌++◌, map}
use Prim.Native.Nat.{ℕ, zero, suc, ◌+◌, ◌<◌}
use Rattle.std.proofs.Math.ListN.{length, get_or}
use Rattle.std.proofs.lemmas.List.{length-map}
use Rattle.lists.specs.Lists.{below, offset}
use Rattle.lists.proofs.BelowLaws.{true_or_false, length_listed, get_or_listed, get_or_map-lt}
use Rattle.lists.proofs.ListsLaws.{in_part-below, get_or_concat_below}
use Rattle.netlist.specs.Net.{Net}
use Rattle.retiming.specs.Rewrite.{Timing, places}
use Rattle.retiming.specs.Gates.{Old, One, Chain, shown_on, chain_length, pick_pair, picks_on, chain_spots, pick_spots, spots, spot_number}
use Rattle.retiming.specs.Layout.{no_place}
use Rattle.retiming.proofs.LayoutLaws.{either}
use Rattle.retiming.specs.GatesLayout.{no_spot}
use Rattle.retiming.proofs.Numbers.{OnWire, on_wire, number_of_place}

module _ (N : Net) (f : Timing) (Z : ℕ → ℕ → ℕ) where
  old_again : (i : ℕ) → i < length (map Old (places N f Z)) → spot_number N f Z (get_or (map Old (places N f Z)) i no_spot) ≡ i
  unfolding spot_number
  old_again i h =
      let l : i < length (places N f Z) = subst (λ (n : ℕ). i < n) (length-map (places N f Z) Old) h in
      ap (spot_number N f Z) (get_or_map-lt Old (places N f Z) i no_place no_spot l) ∙ number_of_place N f Z i l

  chain_again : (m : ℕ) → m < length (chain_spots N f Z) → spot_number N f Z (get_or (chain_spots N f Z) m no_spot) ≡ length (places N f Z) + m
  unfolding spot_number chain_spots
  chain_again m h = ⊎_elim (λ t. rw t (full m (rw t at h))) (λ t. absurd (not-suc-le-zero (rw t at h))) (true_or_false (ltb 0 (chain_length N f Z)))
    where
      full : (m : ℕ) → m < length (One ∷ map Chain (below (chain_length N f Z))) → spot_number N f Z (get_or (One ∷ map Chain (below (chain_length N f Z))) m no_spot) ≡ length (places N f Z) + m
      full zero l = refl
      full (suc i) l =
          let k : i < chain_length N f Z = subst (λ (n : ℕ). i < n) (length_listed Chain (chain_length N f Z)) (le_of_suc-le-suc l) in
          ap (spot_number N f Z) (get_or_listed Chain (chain_length N f Z) i no_spot k)

  pick-again : (m : ℕ) → m < length (pick_spots N f Z) → spot_number N f Z (get_or (pick_spots N f Z) m no_spot) ≡ length (places N f Z) + (length (chain_spots N f Z) + m)
  unfolding spot_number pick_spots picks_on pick_pair
  pick-again m h = go (on_wire N f Z no_spot (picks_on N f Z) m h)
    where
      by_part : (d : OnWire N f Z no_spot (picks_on N f Z) m) (k j : ℕ) → j < 2 → d.place ≡ offset (pick_pair N f Z d.reader d.word d.operand) (below (shown_on N f Z d.reader d.operand)) k + j
          → get_or (pick_spots N f Z) m no_spot ≡ get_or (pick_pair N f Z d.reader d.word d.operand k) j no_spot → spot_number N f Z (get_or (pick_spots N f Z) m no_spot) ≡ length (places N f Z) + (length (chain_spots N f Z) + m)
      by_part d k zero l e a = ap (spot_number N f Z) a ∙ omega (arith, d.number)
      by_part d k (suc zero) l e a = ap (spot_number N f Z) a ∙ omega (arith, d.number)
      by_part d k (suc (suc j)) l e a = absurd (omega arith)

      parted : (d : OnWire N f Z no_spot (picks_on N f Z) m) → (k : ℕ) × (j : ℕ) × (k < shown_on N f Z d.reader d.operand) × (j < 2)
          × (d.place ≡ offset (pick_pair N f Z d.reader d.word d.operand) (below (shown_on N f Z d.reader d.operand)) k + j) → spot_number N f Z (get_or (pick_spots N f Z) m no_spot) ≡ length (places N f Z) + (length (chain_spots N f Z) + m)
      parted d (k, j, hk, hj, e) =
          by_part d k j hj e (d.at ∙ ap (λ (i : ℕ). get_or (picks_on N f Z d.reader d.word d.operand) i no_spot) e
          ∙ get_or_concat_below (pick_pair N f Z d.reader d.word d.operand) (shown_on N f Z d.reader d.operand) k j hk hj no_spot)

      go : OnWire N f Z no_spot (picks_on N f Z) m → spot_number N f Z (get_or (pick_spots N f Z) m no_spot) ≡ length (places N f Z) + (length (chain_spots N f Z) + m)
      go d = parted d (in_part-below (pick_pair N f Z d.reader d.word d.operand) (shown_on N f Z d.reader d.operand) d.place d.within)

  pub number_of_spot : (i : ℕ) → i < length (spots N f Z) → spot_number N f Z (get_or (spots N f Z) i no_spot) ≡ i
  unfolding spots
  number_of_spot i h =
      ⊎_elim (λ (l, e). ap (spot_number N f Z) e ∙ old_again i l)
      (λ (m, k, l, e). ap (spot_number N f Z) e ∙ ⊎_elim (λ (l, e). ap (spot_number N f Z) e ∙ chain_again m l ∙ sym (k ∙ ap (λ (n : ℕ). n + m) (length-map (places N f Z) Old)))
      (λ (o, k₂, l, e). ap (spot_number N f Z) e ∙ pick-again o l ∙ sym (k ∙ ap (λ (n : ℕ). n + m) (length-map (places N f Z) Old) ∙ ap (λ (n : ℕ). length (places N f Z) + n) k₂))
      (either no_spot (chain_spots N f Z) (pick_spots N f Z) m l))
      (either no_spot (map Old (places N f Z)) (chain_spots N f Z ++ pick_spots N f Z) i h)
