-- The nodes of a rewritten netlist without gates: what stands at the number of a place, and what its operands read. Assumes nothing.
use Rattle.std.specs.Prelude.{◌≡◌, ℕ, ◌<◌, length, get_or}
use Rattle.std.proofs.Common.{ap, ◌∙◌, arith}
use Rattle.std.proofs.Math.Bool.{true}
use Rattle.std.proofs.Math.ListN.{length-map}
use Rattle.std.proofs.Math.Dec.{ltb}
use borrow.Author.Tests.{lt-ltb}
use Rattle.lists.proofs.BelowLaws.{get_or_map-lt}
use Rattle.netlist.specs.Net.{Net, size, node_at, nowhere, element_at, operands}
use Rattle.retiming.specs.Rewrite.{Timing, Place, Entry, new_table, new_element, new_source, places, number_of, along, node_of, rewritten_with}
use Rattle.retiming.specs.Layout.{no_place, Sound, Numbered}
use Rattle.retiming.proofs.LayoutLaws.{numbered}
use Rattle.retiming.proofs.Candidate.{few_operands, three-sources, used_new}

module _ (N : Net) (f : Timing) (Z : ℕ → ℕ → ℕ) where
  pub size-places : size (rewritten_with N f Z) ≡ length (places N f Z)
  unfolding rewritten_with
  size-places = length-map (places N f Z) (node_of N f Z)

  pub place_node : (i : ℕ) → i < length (places N f Z) → node_at (rewritten_with N f Z) i ≡ node_of N f Z (get_or (places N f Z) i no_place)
  unfolding rewritten_with node_at
  place_node i h = get_or_map-lt (node_of N f Z) (places N f Z) i no_place nowhere h

  pub place_numbered : (pl : Place) → Sound N f Z pl → node_at (rewritten_with N f Z) (number_of N f Z pl) ≡ node_of N f Z pl
  place_numbered pl s = let n : Numbered N f Z pl = numbered N f Z pl s in place_node (number_of N f Z pl) n.within ∙ ap (node_of N f Z) n.at

  pub place_source : (u c p : ℕ) → p < operands (new_element (element_at N u) (new_table N f Z u) c) → get_or (node_of N f Z (Entry u c)).sources p 0 ≡ number_of N f Z (along N f Z u c p 0)
  unfolding node_of new_source
  place_source u c p q =
      let l : p < operands (element_at N u) = used_new N f Z u c p q in
      let e : ltb p (operands (element_at N u)) ≡ true = lt-ltb p (operands (element_at N u)) l in
      three-sources (new_source N f Z u c) p (omega (arith, few_operands (element_at N u))) ∙ rw e
