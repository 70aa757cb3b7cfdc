-- The gates of all wires in a row: what stands where, and its number. Assumes nothing.
use Rattle.std.specs.Prelude.{◌≡◌, ℕ, ◌+◌, ◌*◌, ◌≤◌, ◌<◌}
use Rattle.std.proofs.Common.{sym, ◌∙◌}
use Rattle.std.proofs.Math.Path.{ap}
use mathlib.Core.List.{List, ◌++◌, map}
use native.Mathlib.Omega.{arith}
use Rattle.std.proofs.Math.ListN.{length, get_or, length-append, length-map}
use Rattle.std.proofs.Math.Seq.{get_or-append-add}
use Rattle.lists.proofs.ListsLaws.{get_or_concat_below}
use Rattle.netlist.specs.Net.{Net}
use Rattle.behaviour.specs.Run.{zero_word}
use Rattle.retiming.specs.Rewrite.{Timing, places}
use Rattle.retiming.specs.Gates.{Spot, Old, Shown, Pick, shown_on, pick_pair, picks_on, chain_spots, pick_spots, spots, spot_number}
use Rattle.retiming.specs.GatesLayout.{no_spot}
use Rattle.retiming.proofs.GatesCounts.{pair_offset}
use Rattle.retiming.proofs.GatesNumbers.{number_of_spot}
use Rattle.plan.specs.Registers.{entry_count}
use Rattle.plan.specs.RegistersRow.{row_all, row_first}
use Rattle.steering.specs.GatesTo.{picks_before, gates_from}

module _ (N : Net) (f : Timing) where
  -- the t-th pair of a wire
  module _ (x c p t : ℕ) (h : t < shown_on N f (zero_word N) x p) where
    in_pair : (j : ℕ) → j < 2 → get_or (picks_on N f (zero_word N) x c p) (2 * t + j) no_spot ≡ get_or (pick_pair N f (zero_word N) x c p t) j no_spot
    unfolding picks_on pick_pair
    in_pair j l =
        ap (λ (i : ℕ). get_or (picks_on N f (zero_word N) x c p) (i + j) no_spot) (sym (pair_offset N f (zero_word N) x c p t (omega arith)))
        ∙ get_or_concat_below (pick_pair N f (zero_word N) x c p) (shown_on N f (zero_word N) x p) t j h l no_spot

    pub constant_at : get_or (picks_on N f (zero_word N) x c p) (2 * t) no_spot ≡ Shown x c p t
    unfolding pick_pair
    constant_at = ap (λ (i : ℕ). get_or (picks_on N f (zero_word N) x c p) i no_spot) (let e : 2 * t ≡ 2 * t + 0 = omega arith in e) ∙ in_pair 0 (omega arith)

    pub gate_at : get_or (picks_on N f (zero_word N) x c p) (2 * t + 1) no_spot ≡ Pick x c p t
    unfolding pick_pair
    gate_at = in_pair 1 (omega arith)

  -- all of them, behind the places and the chain
  pub picks_in_row : pick_spots N f (zero_word N) ≡ picks_before N f (3 * entry_count N f)
  unfolding pick_spots
  picks_in_row = row_all N f (picks_on N f (zero_word N))

  pub spots-length : length (spots N f (zero_word N)) ≡ gates_from N f + length (picks_before N f (3 * entry_count N f))
  unfolding spots
  spots-length =
      length-append (map Old (places N f (zero_word N))) (chain_spots N f (zero_word N) ++ pick_spots N f (zero_word N))
      ∙ omega (arith, length-map (places N f (zero_word N)) Old, length-append (chain_spots N f (zero_word N)) (pick_spots N f (zero_word N)), ap length picks_in_row)

  pub spot_at_lem : (i : ℕ) → get_or (spots N f (zero_word N)) (gates_from N f + i) no_spot ≡ get_or (picks_before N f (3 * entry_count N f)) i no_spot
  unfolding spots
  spot_at_lem i =
      ap (λ (k : ℕ). get_or (spots N f (zero_word N)) k no_spot)
      (let e : gates_from N f + i ≡ length (map Old (places N f (zero_word N))) + (length (chain_spots N f (zero_word N)) + i) = omega (arith, length-map (places N f (zero_word N)) Old) in e)
      ∙ get_or-append-add (map Old (places N f (zero_word N))) (chain_spots N f (zero_word N) ++ pick_spots N f (zero_word N)) (length (chain_spots N f (zero_word N)) + i) no_spot
      ∙ get_or-append-add (chain_spots N f (zero_word N)) (pick_spots N f (zero_word N)) i no_spot
      ∙ ap (λ (l : List Spot). get_or l i no_spot) picks_in_row

  -- so a constant or gate of the first wires has the number of its spot
  pub pick_number : (m i : ℕ) → m ≤ 3 * entry_count N f → i < length (picks_before N f m) → spot_number N f (zero_word N) (get_or (picks_before N f m) i no_spot) ≡ gates_from N f + i
  pick_number m i h k =
      let w = row_first N f (picks_on N f (zero_word N)) no_spot m (3 * entry_count N f) i h k in
      ap (spot_number N f (zero_word N)) (sym (spot_at_lem i ∙ w.1)) ∙ number_of_spot N f (zero_word N) (gates_from N f + i) (omega (arith, spots-length, w.0))
