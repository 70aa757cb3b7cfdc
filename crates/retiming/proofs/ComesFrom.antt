-- From which old node each node of the new netlist comes, by its spot. Assumes nothing.
use Rattle.std.specs.Prelude.{◌≡◌, refl, ℕ, ◌+◌, ◌≤◌, ◌<◌}
use Rattle.std.proofs.Common.{sym, ◌∙◌, arith}
use Rattle.std.proofs.Math.Path.{ap, subst}
use Rattle.std.proofs.Math.Logic.{inl, inr, ⊎_elim}
use mathlib.Core.List.{List, [], ◌∷◌, map}
use Rattle.std.proofs.Math.ListN.{length, length-map, get_or-eq_default}
use Rattle.lists.proofs.BelowLaws.{lt_or_le, get_or_map-lt}
use Rattle.netlist.specs.declared.Node.{Node}
use Rattle.netlist.specs.Net.{Net, size, node_at, element_at, width_at}
use Rattle.retiming.specs.Rewrite.{Timing, Entry, Reg, new_table, reset_word}
use Rattle.retiming.specs.Gates.{Spot, Old, One, Chain, Shown, Pick, first_on, spots, spot_number, spot_node, gated_with}
use Rattle.retiming.proofs.Candidate.{size-new, node_new}
use Rattle.retiming.specs.Lengths.{SameNode, Aside, came_from, comes_from_by}
use Rattle.retiming.specs.GatesLayout.{no_spot, spot_at, SpotSound, SpotNumbered}
use Rattle.retiming.proofs.GatesLayout.{spot-numbered}

none_not_one : {u : ℕ} → ◌≡◌ {A = List ℕ} [] (u ∷ []) → ⊥
none_not_one e = let z : ◌≡◌ {A = ℕ} 0 1 = cc in omega arith

module _ (N : Net) (f : Timing) (Z : ℕ → ℕ → ℕ) where
  pub came_from_lem : (i : ℕ) → i < length (spots N f Z) → comes_from_by N f Z i ≡ came_from (spot_at N f Z i)
  unfolding comes_from_by
  came_from_lem i h = get_or_map-lt came_from (spots N f Z) i no_spot [] h

  pub spot_from : (sp : Spot) → SpotSound N f Z sp → comes_from_by N f Z (spot_number N f Z sp) ≡ came_from sp
  spot_from sp s = let n : SpotNumbered N f Z sp = spot-numbered N f Z sp s in came_from_lem (spot_number N f Z sp) n.within ∙ ap came_from n.at

  -- what comes from u is u with some reset word
  is_entry : (u : ℕ) (sp : Spot) → came_from sp ≡ u ∷ [] → (c : ℕ) × (sp ≡ Old (Entry u c))
  is_entry u (Old (Entry v c)) e = (c, cc)
  is_entry u (Old (Reg x c p j)) e = absurd (none_not_one e)
  is_entry u One e = absurd (none_not_one e)
  is_entry u (Chain i) e = absurd (none_not_one e)
  is_entry u (Shown x c p k) e = absurd (none_not_one e)
  is_entry u (Pick x c p k) e = absurd (none_not_one e)

  pub entry_only : (u i : ℕ) → comes_from_by N f Z i ≡ u ∷ [] → (i < length (spots N f Z)) × ((c : ℕ) × (spot_at N f Z i ≡ Old (Entry u c)))
  unfolding comes_from_by
  entry_only u i e =
      ⊎_elim (λ h. (h, is_entry u (spot_at N f Z i) (sym (came_from_lem i h) ∙ e)))
      (λ (h : length (spots N f Z) ≤ i). absurd (none_not_one (sym (get_or-eq_default (map came_from (spots N f Z)) [] (omega (arith, length-map (spots N f Z) came_from))) ∙ e)))
      (lt_or_le i (length (spots N f Z)))

  -- so it has u's element, as it is rewritten, and u's width
  pub comes_is : (u i : ℕ) → comes_from_by N f Z i ≡ u ∷ [] → SameNode N (gated_with N f Z) u i
  unfolding element_at width_at spot_node
  comes_is u i e =
      let (h, (c, k)) = entry_only u i e in
      let n : node_at (gated_with N f Z) i ≡ spot_node N f Z (Old (Entry u c)) = node_new N f Z i h ∙ ap (spot_node N f Z) k in
      record { inside = subst (λ (m : ℕ). i < m) (sym (size-new N f Z)) h; width = ap (λ (n : Node). n.width) n; table = new_table N f Z u; reset = c; element = ap (λ (n : Node). n.element) n }

  -- and what comes from none is a register, or added
  aside_spot : (sp : Spot) → came_from sp ≡ [] → Aside (spot_node N f Z sp).element
  unfolding spot_node
  aside_spot (Old (Entry u c)) e = absurd (none_not_one (sym e))
  aside_spot (Old (Reg x c p j)) e = inl (reset_word N f Z x p j, refl)
  aside_spot One e = inr (inl (1, refl))
  aside_spot (Chain i) e = inl (0, refl)
  aside_spot (Shown x c p k) e = inr (inl (reset_word N f Z x p (first_on N f Z x + k), refl))
  aside_spot (Pick x c p k) e = inr (inr refl)

  pub aside_is : (i : ℕ) → i < size (gated_with N f Z) → comes_from_by N f Z i ≡ [] → Aside (element_at (gated_with N f Z) i)
  unfolding element_at
  aside_is i h e =
      let k : i < length (spots N f Z) = subst (λ (n : ℕ). i < n) (size-new N f Z) h in
      subst (λ (n : Node). Aside n.element) (sym (node_new N f Z i k)) (aside_spot (spot_at N f Z i) (sym (came_from_lem i k) ∙ e))
