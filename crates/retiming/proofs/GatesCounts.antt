-- How many gates a wire has, at which old clock each of its constants has its word, and where they stand. Assumes nothing.
use Rattle.std.specs.Prelude.{◌≡◌, List}
use Rattle.std.proofs.Math.Path.{refl, ap}
use Rattle.std.proofs.Common.{◌∙◌, lt-ltb}
use Prim.Native.Nat.{ℕ, zero, suc, ◌+◌, ◌-◌, ◌*◌, ◌≤◌, ◌<◌}
use native.Mathlib.Omega.{arith}
use Rattle.std.proofs.Math.ListN.{length, length-append}
use Rattle.lists.specs.Lists.{below, concat_map, offset}
use Rattle.lists.proofs.BelowLaws.{take_up_from}
use Rattle.lists.proofs.Threes.{concat_next}
use Rattle.netlist.specs.Net.{Net, source}
use Rattle.retiming.specs.Rewrite.{Timing, root, old_on, reset_word, wire_number, places}
use Rattle.retiming.specs.Gates.{Shown, Pick, first_on, last_on, shown_on, pick_pair, picks_on, chain_spots, spot_number}
use Rattle.retiming.proofs.Candidate.{word_after}

module _ (N : Net) (f : Timing) (Z : ℕ → ℕ → ℕ) where
  -- as many as the wire had registers, less those by which its reader is early
  pub shown_count : (x p : ℕ) → f.lead (root N (source N x p)) < f.origin → shown_on N f Z x p ≡ old_on N f Z x p - (f.lead x - f.origin)
  unfolding shown_on last_on first_on
  shown_count x p l = rw (lt-ltb (f.lead (root N (source N x p))) f.origin l) (omega arith)

  -- the k-th constant is the word of old clock k, or as much later as its reader is early; never of a clock before 0
  pub shown-clock : (x p k : ℕ) → reset_word N f Z x p (first_on N f Z x + k) ≡ Z (k + (f.lead x - f.origin)) (source N x p)
  unfolding reset_word first_on
  shown-clock x p k = word_after f.origin Z ((f.origin - f.lead x) + k + f.lead x) (source N x p) (omega arith) ∙ ap (λ (n : ℕ). Z n (source N x p)) (omega arith)

  -- two nodes for each
  pairs : (x c p k : ℕ) → length (concat_map (pick_pair N f Z x c p) (below k)) ≡ 2 * k
  unfolding pick_pair
  pairs x c p zero = refl
  pairs x c p (suc k) =
      let e : suc k ≡ k + 1 = omega arith in
      ap (λ (n : ℕ). length (concat_map (pick_pair N f Z x c p) (below n))) e
      ∙ ap length (concat_next (pick_pair N f Z x c p) k) ∙ length-append (concat_map (pick_pair N f Z x c p) (below k)) (pick_pair N f Z x c p k) ∙ omega (arith, pairs x c p k)

  pub picks_length : (x c p : ℕ) → length (picks_on N f Z x c p) ≡ 2 * shown_on N f Z x p
  unfolding picks_on
  picks_length x c p = pairs x c p (shown_on N f Z x p)

  pub pair_offset : (x c p k : ℕ) → k ≤ shown_on N f Z x p → offset (pick_pair N f Z x c p) (below (shown_on N f Z x p)) k ≡ 2 * k
  pair_offset x c p k h = ap (λ (l : List ℕ). length (concat_map (pick_pair N f Z x c p) l)) (take_up_from 0 (shown_on N f Z x p) k h) ∙ pairs x c p k

  -- the k-th constant, and its gate directly after it
  pub shown_number : (x c p k : ℕ) → k < shown_on N f Z x p → spot_number N f Z (Shown x c p k) ≡ length (places N f Z) + (length (chain_spots N f Z) + (wire_number N f Z (picks_on N f Z) x c p + 2 * k))
  unfolding spot_number
  shown_number x c p k h = omega (arith, pair_offset x c p k (omega arith))

  pub pick_number : (x c p k : ℕ) → k < shown_on N f Z x p → spot_number N f Z (Pick x c p k) ≡ suc (spot_number N f Z (Shown x c p k))
  unfolding spot_number
  pick_number x c p k h = omega arith
