-- Where no source is late there are no gates: the rewritten netlist with gates is that of document 01. Assumes nothing.
use Rattle.std.specs.Prelude.{◌≡◌, ℕ, ◌≤◌, ltb}
use Rattle.std.proofs.Math.Path.{refl, ap}
use Rattle.std.proofs.Common.{ap₂, ◌∙◌, arith, le-ltb}
use Rattle.std.proofs.Math.Logic.{⊎_elim}
use Rattle.std.proofs.Math.Bool.{cond}
use mathlib.Core.List.{List, [], ◌∷◌, ◌++◌, map, append-nil}
use Rattle.netlist.specs.declared.Node.{Node}
use Rattle.lists.proofs.BelowLaws.{true_or_false, largest_is}
use Rattle.lists.proofs.ListsLaws.{All}
use Rattle.netlist.specs.Net.{Net, size, element_at, width_at, source, operands}
use Rattle.retiming.specs.Rewrite.{Timing, Place, Entry, Reg, root, stays, new_tables, new_table, new_element, places, new_source, node_of, rewritten_with}
use Rattle.retiming.specs.Gates.{Spot, Old, shown_on, steers_on, steers_of, chain_length, picks_on, chain_spots, pick_spots, spots, spot_number, gated_source, spot_node, gated_with}
use Rattle.retiming.proofs.LayoutLaws.{all_wires}
use Rattle.retiming.proofs.GatesLayout.{picked_wire, shown_early, steers_none}

all_none : {A : Type 0} (l : List A) → All (λ a. ⊥) l → l ≡ []
all_none [] h = refl
all_none (a ∷ l) (h, k) = absurd h

map-map : {A B C : Type 0} (f : A → B) (g : B → C) (h : A → C) → ((a : A) → g (f a) ≡ h a) → (l : List A) → map g (map f l) ≡ map h l
map-map f g h e [] = refl
map-map f g h e (a ∷ l) = ap₂ ◌∷◌ (e a) (map-map f g h e l)

module _ (N : Net) (f : Timing) (Z : ℕ → ℕ → ℕ) (early : (v : ℕ) → f.origin ≤ f.lead v) where
  pub none_shown : (x p : ℕ) → shown_on N f Z x p ≡ 0
  none_shown x p = shown_early N f Z x p (early (root N (source N x p)))

  none_steered : (x : ℕ) → steers_of N f Z x ≡ 0
  unfolding steers_of
  none_steered x = ⊎_elim (λ o. rw o (⊎_elim (λ z. z) (λ (p, q, k). k ∙ steers_none N f Z x p (omega (arith, none_shown x p))) (largest_is (operands (element_at N x)) (steers_on N f Z x)))) (λ o. rw o refl) (true_or_false (stays N f Z x))

  pub no_length : chain_length N f Z ≡ 0
  unfolding chain_length
  no_length = ⊎_elim (λ z. z) (λ (x, h, k). k ∙ none_steered x) (largest_is (size N) (steers_of N f Z))

  pub no_chain : chain_spots N f Z ≡ []
  unfolding chain_spots
  no_chain = rw (le-ltb 0 (chain_length N f Z) (omega (arith, no_length)))

  pub no_picks : pick_spots N f Z ≡ []
  unfolding pick_spots picks_on
  no_picks = all_none (pick_spots N f Z) (all_wires N f Z (λ sp. ⊥) (picks_on N f Z) (λ x c p s q. rw (none_shown x p) tt))

  source_is : (x c p : ℕ) → gated_source N f Z x c p ≡ new_source N f Z x c p
  unfolding gated_source new_source spot_number
  source_is x c p = ap (λ (sp : Spot). cond (ltb p (operands (element_at N x))) (spot_number N f Z sp) 0) (picked_wire N f Z x c p 0 (omega (arith, none_shown x p)))

  node_is : (pl : Place) → spot_node N f Z (Old pl) ≡ node_of N f Z pl
  unfolding spot_node node_of
  node_is (Entry u c) =
      ap (λ (l : List ℕ). record { element = new_element (element_at N u) (new_table N f Z u) c; width = width_at N u; sources = l }) (λ i. source_is u c 0 i ∷ source_is u c 1 i ∷ source_is u c 2 i ∷ [])
  node_is (Reg x c p j) = refl

  nodes_are : map (spot_node N f Z) (spots N f Z) ≡ map (node_of N f Z) (places N f Z)
  unfolding spots
  nodes_are =
      ap (map (spot_node N f Z)) (ap₂ (λ (a b : List Spot). map Old (places N f Z) ++ (a ++ b)) no_chain no_picks ∙ append-nil (map Old (places N f Z)))
      ∙ map-map Old (spot_node N f Z) (node_of N f Z) node_is (places N f Z)

  pub ungated : gated_with N f Z ≡ rewritten_with N f Z
  unfolding gated_with rewritten_with
  ungated = ap (λ (ns : List Node). record { tables = new_tables N f Z; nodes = ns }) nodes_are
