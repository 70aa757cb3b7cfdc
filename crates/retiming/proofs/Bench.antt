-- Laws of what specs/Bench.antt defines. Assumes nothing.
use Rattle.std.specs.Prelude.{◌≡◌, refl, true, List, [], ◌∷◌, map, ℕ, ◌≤◌, length, get_or, ltb}
use Rattle.std.proofs.Common.{⊎_elim, lit<, ltb-true}
use Rattle.std.proofs.Math.ListN.{get_or-eq_default}
use Rattle.lists.specs.Lists.{below, all_below}
use Rattle.lists.proofs.BelowLaws.{lt_or_le, all_below_elim}
use Rattle.netlist.specs.Offsets.{fields_of, offset_of}
use Rattle.codec.specs.Bytes.{Bytes}
use Rattle.behaviour.specs.Service.{reset_file, Entry, runs_file}
use Rattle.retiming.specs.FileRewrite.{rewritten_file}
use Rattle.retiming.proofs.Demand3.{demand_3}
use Rattle.retiming.specs.RunningOffset.{new_net}
use Rattle.retiming.specs.Computing.{computing}
use Rattle.retiming.specs.Bench.{leads_in_lem, readers_in, lent, output_words, found_by, found, expected, clock, sized, refused, empty, adder_over, adder, filled_adder, toggle, bare, before, behind, split, turned, owing, row, bench}

-- THE THEOREM
pub bench_holds : map found bench ≡ map expected bench
unfolding computing leads_in_lem readers_in lent output_words found_by found expected clock sized refused adder_over empty adder toggle bare before behind split turned owing filled_adder row bench
bench_holds = refl

-- T-04: the offsets of the new adder's fields, the head's, its table's, its five nodes', the end's, and behind that the file's length
adder_offsets : map (offset_of (new_net adder.file)) (below 9) ≡ 0 ∷ 4 ∷ 17 ∷ 27 ∷ 37 ∷ 44 ∷ 53 ∷ 62 ∷ 65 ∷ []
unfolding computing adder adder_over clock sized fields_of offset_of
adder_offsets = refl

-- ---- and not for the first clocks alone: demand 3, for instance of the adder

pub byte_list : (s : List ℕ) → all_below (length s) (λ i. ltb (get_or s i 0) 256) ≡ true → Bytes s
byte_list s t i =
    ⊎_elim (λ h. ltb-true (get_or s i 0) 256 (all_below_elim (length s) (λ j. ltb (get_or s j 0) 256) t i h)) (λ (h : length s ≤ i). rw (get_or-eq_default s 0 h) (lit< tt)) (lt_or_le i (length s))

adder_for_ever : (es : List Entry)
    → runs_file adder.file (reset_file adder.file (0 ∷ 0 ∷ [])).state es
    ≡ runs_file (rewritten_file adder.file) (reset_file (rewritten_file adder.file) (0 ∷ 0 ∷ 0 ∷ 0 ∷ 0 ∷ 0 ∷ [])).state es
unfolding computing adder adder_over clock sized
adder_for_ever es = (((demand_3 adder.file (rewritten_file adder.file) (byte_list adder.file refl) refl refl).3 (0 ∷ 0 ∷ []) (0 ∷ 0 ∷ 0 ∷ 0 ∷ 0 ∷ 0 ∷ []) refl refl).2 es).0
