-- Laws of what specs/RegistersLast.antt defines. Assumes nothing.
use Rattle.std.specs.Prelude.{◌≡◌, not, map, length}
use Rattle.std.proofs.Math.Path.{refl, ap}
use Rattle.std.proofs.Common.{sym, subst, ◌∙◌}
use Rattle.std.proofs.Math.Logic.{inl, inr, ⊎_elim}
use Rattle.std.proofs.Math.Bool.{true, false}
use Prim.Native.Nat.{ℕ, suc, ◌+◌, ◌-◌, ◌≤◌, ◌<◌}
use native.Mathlib.Omega.{arith}
use Rattle.std.proofs.Math.ListN.{get_or, length-append}
use Rattle.netlist.specs.declared.Node.{Node}
use Rattle.lists.specs.Lists.{below, select}
use Rattle.lists.proofs.BelowLaws.{lt_or_le, length_listed}
use Rattle.lists.proofs.SelectLaws.{select-first}
use Rattle.netlist.specs.Net.{Net, size, node_at, element_at, source, is_register}
use Rattle.retiming.specs.Rewrite.{Timing, Place, Entry, Reg, root, count_on, new_table, entry_places, reg_places, places, number_of, along, node_of, rewritten_with}
use Rattle.retiming.specs.Wires.{Rooted}
use Rattle.retiming.proofs.Wires.{wire_next, wire_none}
use Rattle.retiming.specs.Layout.{no_place, Stands, Sound}
use Rattle.retiming.proofs.LayoutLaws.{places_sound, entry_within, along_reg, along-end, root_stands}
use Rattle.retiming.proofs.Numbers.{number_of_place}
use Rattle.retiming.specs.Candidate.{Retimes}
use Rattle.retiming.proofs.PlaceNodes.{size-places, place_node, place_numbered}
use Rattle.retiming.proofs.Rules.{register_new}
use Rattle.retiming.specs.BySource.{registers_from, registers_to, by_source, by_reader}
use Rattle.retiming.specs.RegistersLast.{Behind, RegistersLast, firsts}

-- ---- what is told of all that are no registers is told of the first k

module _ {M : Net} {k : ℕ} (last : RegistersLast M k) where
  others_first : (h : ℕ → ℕ) → select (λ v. not (is_register (element_at M v))) h (size M) ≡ map h (below k)
  others_first h =
      let e : k + (size M - k) ≡ size M = omega (arith, last.inside) in
      ap (select (λ v. not (is_register (element_at M v))) h) (sym e)
      ∙ select-first (λ v. not (is_register (element_at M v))) h k (size M - k) (λ v l. ap not (last.others v l)) (λ v l m. ap not (last.registers v l (omega arith)))

  pub source_list : by_source M ≡ map (registers_from M) (below k)
  unfolding by_source
  source_list = others_first (registers_from M)

  pub reader_list : by_reader M ≡ map (registers_to M) (below k)
  unfolding by_reader
  reader_list = others_first (registers_to M)

  pub source_count : length (by_source M) ≡ k
  source_count = ap length source_list ∙ length_listed (registers_from M) k

-- ---- the rewritten netlist

module _ (N : Net) (f : Timing) (Z : ℕ → ℕ → ℕ) (ok : Retimes N f) where
  abbrev new : Net
  new = rewritten_with N f Z

  -- the element of a place
  pub entry_other : (u c : ℕ) → Stands N f Z u c → is_register (node_of N f Z (Entry u c)).element ≡ false
  unfolding node_of
  entry_other u c s = register_new (element_at N u) (new_table N f Z u) c ∙ s.other

  pub reg_register : (x c p j : ℕ) → is_register (node_of N f Z (Reg x c p j)).element ≡ true
  unfolding node_of
  reg_register x c p j = refl

  reg_source : (x c p j : ℕ) → get_or (node_of N f Z (Reg x c p j)).sources 0 0 ≡ number_of N f Z (along N f Z x c p (suc j))
  unfolding node_of
  reg_source x c p j = refl

  -- the number of a place
  reg_number : (x c p j : ℕ) → firsts N f Z ok ≤ number_of N f Z (Reg x c p j)
  unfolding number_of
  reg_number x c p j = omega arith

  next_number : (x c p j : ℕ) → suc j < count_on N f Z x p → number_of N f Z (Reg x c p (suc j)) + 1 ≡ number_of N f Z (Reg x c p j)
  unfolding number_of
  next_number x c p j l = omega arith

  -- a node by its place
  record At (v : ℕ) : Type 0 where
    place : Place
    sound : Sound N f Z place
    number : number_of N f Z place ≡ v
    node : node_at new v ≡ node_of N f Z place

  at : (v : ℕ) → v < size new → At v
  at v h =
      let l : v < length (places N f Z) = subst (λ (n : ℕ). v < n) (size-places N f Z) h in
      record { place = get_or (places N f Z) v no_place; sound = places_sound N f Z v l; number = number_of_place N f Z v l; node = place_node N f Z v l }

  module _ (rooted : Rooted new) where
    -- a register of a wire and what it reads
    reg_behind : (x c p j v : ℕ) → Sound N f Z (Reg x c p j) → number_of N f Z (Reg x c p j) ≡ v → v < size new → is_register (element_at new v) ≡ true → source new v 0 ≡ number_of N f Z (along N f Z x c p (suc j))
        → Behind new (firsts N f Z ok) v
    unfolding element_at
    reg_behind x c p j v (s, q, l) n h r e =
        ⊎_elim
        (λ (m : suc j < count_on N f Z x p).
        let is : source new v 0 ≡ number_of N f Z (Reg x c p (suc j)) = e ∙ ap (number_of N f Z) (along_reg N f Z x c p (suc j) m) in
        inr (omega (arith, reg_number x c p (suc j)), omega (arith, next_number x c p j m), (wire_next new rooted v h r).0))
        (λ (m : count_on N f Z x p ≤ suc j).
        let t : Stands N f Z (root N (source N x p)) _ = root_stands N f Z ok.sourced ok.rooted ok.serves x c p s q in
        let is : source new v 0 ≡ number_of N f Z (Entry (root N (source N x p)) _) = e ∙ ap (number_of N f Z) (along-end N f Z x c p (suc j) m) in
        let other : is_register (element_at new (source new v 0)) ≡ false = ap (λ (k : ℕ). is_register (element_at new k)) is ∙ ap (λ (n : Node). is_register n.element) (place_numbered N f Z (Entry (root N (source N x p)) _) t) ∙ entry_other (root N (source N x p)) _ t in
        inl (omega (arith, entry_within N f Z (root N (source N x p)) _ t), (wire_next new rooted v h r).0 ∙ (wire_none new (source new v 0) other).0))
        (lt_or_le (suc j) (count_on N f Z x p))

    few_firsts : firsts N f Z ok ≤ size new
    unfolding places
    few_firsts = omega (arith, size-places N f Z, length-append (entry_places N f Z) (reg_places N f Z))

    first_other : (v : ℕ) → v < firsts N f Z ok → At v → is_register (element_at new v) ≡ false
    unfolding element_at
    first_other v l a = by_place a.place a.sound a.number a.node
      where
        by_place : (pl : Place) → Sound N f Z pl → number_of N f Z pl ≡ v → node_at new v ≡ node_of N f Z pl → is_register (element_at new v) ≡ false
        by_place (Entry u c) s n e = ap (λ (x : Node). is_register x.element) e ∙ entry_other u c s
        by_place (Reg x c p j) s n e = absurd (omega (arith, reg_number x c p j))

    later_register : (v : ℕ) → firsts N f Z ok ≤ v → v < size new → At v
        → (is_register (element_at new v) ≡ true)
        × Behind new (firsts N f Z ok) v
    unfolding element_at source
    later_register v l h a = by_place a.place a.sound a.number a.node
      where
        by_place : (pl : Place) → Sound N f Z pl → number_of N f Z pl ≡ v → node_at new v ≡ node_of N f Z pl
            → (is_register (element_at new v) ≡ true)
            × Behind new (firsts N f Z ok) v
        by_place (Entry u c) s n e = absurd (omega (arith, entry_within N f Z u c s))
        by_place (Reg x c p j) s n e =
            let r : is_register (element_at new v) ≡ true = ap (λ (y : Node). is_register y.element) e ∙ reg_register x c p j in
            (r, reg_behind x c p j v s n h r (ap (λ (y : Node). get_or y.sources 0 0) e ∙ reg_source x c p j))

    pub registers_last : RegistersLast new (firsts N f Z ok)
    registers_last = record {
      inside = few_firsts;
      others = λ v l. first_other v l (at v (omega (arith, few_firsts)));
      registers = λ v l h. (later_register v l h (at v h)).0;
      behind = λ v l h. (later_register v l h (at v h)).1;
    }
