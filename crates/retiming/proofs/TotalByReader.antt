-- The wires of the rewritten netlist, counted by reader: going back from an operand passes the registers that its wire was given, and together these are all registers.
-- Assumes nothing.
use Rattle.std.specs.Prelude.{◌≡◌, map}
use Rattle.std.proofs.Math.Path.{sym, ap}
use Rattle.std.proofs.Common.{subst, ◌∙◌, ⊎_elim, arith}
use Rattle.std.proofs.lemmas.Simd.{map-map}
use Prim.Native.Nat.{ℕ, zero, suc, ◌+◌, ◌-◌, ◌≤◌, ◌<◌}
use Rattle.std.proofs.Math.ListN.{length, get_or, length-append, get_or-append}
use Rattle.std.proofs.lemmas.List.{length-map}
use Rattle.std.proofs.Math.Seq.{ext_get_or}
use Rattle.netlist.specs.declared.Node.{Node}
use Rattle.lists.specs.Lists.{below, total}
use Rattle.lists.proofs.BelowLaws.{lt_or_le, length_listed, get_or_listed, get_or_map-lt}
use Rattle.lists.proofs.ListsLaws.{listed_same}
use Rattle.lists.proofs.TotalLaws.{length-concat_map, total-concat_map}
use Rattle.netlist.specs.Net.{Net, size, node_at, element_at, source, operands, is_register, count_of}
use Rattle.retiming.specs.Rewrite.{Timing, Place, Entry, Reg, passed, count_on, new_table, copies, wires_of, wires_all, wire_places, entries_of, regs_on, entry_places, reg_places, places, number_of, along, node_of, rewritten_with}
use Rattle.retiming.specs.Wires.{Rooted}
use Rattle.retiming.proofs.Wires.{wire_next, wire_none}
use Rattle.retiming.specs.Layout.{no_place, Stands, Sound}
use Rattle.retiming.proofs.LayoutLaws.{places_sound, numbered, along_reg, along-end, root_stands}
use Rattle.retiming.proofs.Numbers.{number_of_place}
use Rattle.retiming.specs.Candidate.{Retimes}
use Rattle.retiming.proofs.Candidate.{operands-new, used_new}
use Rattle.retiming.proofs.PlaceNodes.{size-places, place_node, place_numbered, place_source}
use Rattle.retiming.specs.BySource.{registers_to, by_reader}
use Rattle.retiming.proofs.BySourceLaws.{sources_others}
use Rattle.retiming.specs.RegistersLast.{firsts}
use Rattle.retiming.proofs.RegistersLast.{entry_other, registers_last, reader_list, source_count}

module _ (N : Net) (f : Timing) (Z : ℕ → ℕ → ℕ) where
  -- the registers on the wires to a node of the old netlist, as nodes of their own
  wires_to : ℕ → ℕ
  wires_to x = total (map (count_on N f Z x) (below (operands (element_at N x))))

  reader_of : Place → ℕ
  reader_of (Entry u c) = wires_to u
  reader_of (Reg x c p j) = 0

  -- ---- the registers of all wires

  length_regs : (x c p : ℕ) → length (regs_on N f Z x c p) ≡ count_on N f Z x p
  unfolding regs_on
  length_regs x c p = length_listed (λ i. Reg x c p (count_on N f Z x p - suc i)) (count_on N f Z x p)

  length_wires : (x c : ℕ) → length (wires_of N f Z (regs_on N f Z) x c) ≡ wires_to x
  unfolding wires_of wires_to
  length_wires x c = length-concat_map (regs_on N f Z x c) (below (operands (element_at N x))) ∙ (λ i. total (map (λ p. length_regs x c p i) (below (operands (element_at N x)))))

  length_readers : (x : ℕ) → length (wires_all N f Z (regs_on N f Z) x) ≡ total (map reader_of (entries_of N f Z x))
  unfolding wires_all entries_of reader_of
  length_readers x =
      length-concat_map (wires_of N f Z (regs_on N f Z) x) (copies N f Z x)
      ∙ (λ i. total (map (λ c. length_wires x c i) (copies N f Z x)))
      ∙ sym (ap total (map-map reader_of (Entry x) (copies N f Z x)))

  length_reg_places : length (reg_places N f Z) ≡ total (map reader_of (entry_places N f Z))
  unfolding reg_places wire_places entry_places
  length_reg_places =
      length-concat_map (wires_all N f Z (regs_on N f Z)) (below (size N))
      ∙ (λ i. total (map (λ x. length_readers x i) (below (size N))))
      ∙ sym (total-concat_map (entries_of N f Z) reader_of (below (size N)))

  -- ---- going back along a wire

  module _ (ok : Retimes N f) (rooted : Rooted (rewritten_with N f Z)) where
    abbrev new : Net
    new = rewritten_with N f Z

    number_inside : (pl : Place) → Sound N f Z pl → number_of N f Z pl < size new
    number_inside pl s = subst (λ (n : ℕ). number_of N f Z pl < n) (sym (size-places N f Z)) (numbered N f Z pl s).within

    module _ (x c p : ℕ) (s : Stands N f Z x c) (q : p < operands (element_at N x)) where
      passed-end : (j : ℕ) → count_on N f Z x p ≤ j → passed new (number_of N f Z (along N f Z x c p j)) ≡ 0
      unfolding element_at
      passed-end j l =
          let t = root_stands N f Z ok.sourced ok.rooted ok.serves x c p s q in
          ap (λ (pl : Place). passed new (number_of N f Z pl)) (along-end N f Z x c p j l)
          ∙ (wire_none new _ (ap (λ (n : Node). is_register n.element) (place_numbered N f Z (Entry _ _) t) ∙ entry_other N f Z ok _ _ t)).1

      passed_reg : (j : ℕ) → j < count_on N f Z x p → passed new (number_of N f Z (along N f Z x c p j)) ≡ suc (passed new (number_of N f Z (along N f Z x c p (suc j))))
      unfolding element_at source node_of
      passed_reg j l =
          let here : Sound N f Z (Reg x c p j) = (s, q, l) in
          let node = place_numbered N f Z (Reg x c p j) here in
          ap (λ (pl : Place). passed new (number_of N f Z pl)) (along_reg N f Z x c p j l)
          ∙ (wire_next new rooted (number_of N f Z (Reg x c p j)) (number_inside (Reg x c p j) here) (ap (λ (n : Node). is_register n.element) node)).1
          ∙ ap (λ (n : Node). suc (passed new (get_or n.sources 0 0))) node

      passed-along : (d j : ℕ) → count_on N f Z x p ≤ j + d → passed new (number_of N f Z (along N f Z x c p j)) ≡ count_on N f Z x p - j
      passed-along zero j l = passed-end j (omega arith) ∙ omega arith
      passed-along (suc d) j l =
          ⊎_elim (λ (m : j < count_on N f Z x p). passed_reg j m ∙ omega (arith, passed-along d (suc j) (omega arith))) (λ (m : count_on N f Z x p ≤ j). passed-end j m ∙ omega arith)
          (lt_or_le j (count_on N f Z x p))

      -- a reader's wire has as many registers as it was given
      pub passed-new : passed new (number_of N f Z (along N f Z x c p 0)) ≡ count_on N f Z x p
      passed-new = omega (arith, passed-along (count_on N f Z x p) 0 (omega arith))

    -- ---- node by node

    registers_to_entry : (u c v : ℕ) → Stands N f Z u c → node_at new v ≡ node_of N f Z (Entry u c) → registers_to new v ≡ wires_to u
    unfolding registers_to wires_to element_at source node_of
    registers_to_entry u c v s e =
        ap (λ (n : Node). total (map (λ p. passed new (get_or n.sources p 0)) (below (operands n.element)))) e
        ∙ ap total (listed_same (λ p. passed new (get_or (node_of N f Z (Entry u c)).sources p 0)) (count_on N f Z u) (operands (node_of N f Z (Entry u c)).element)
        (λ p q. ap (passed new) (place_source N f Z u c p q) ∙ passed-new u c p s (used_new N f Z u c p q)))
        ∙ ap (λ (n : ℕ). total (map (count_on N f Z u) (below n))) (operands-new (element_at N u) (new_table N f Z u) c)

    at_place : (pl : Place) (v : ℕ) → Sound N f Z pl → number_of N f Z pl ≡ v → node_at new v ≡ node_of N f Z pl → v < firsts N f Z ok → registers_to new v ≡ reader_of pl
    unfolding reader_of number_of
    at_place (Entry u c) v s n e l = registers_to_entry u c v s e
    at_place (Reg x c p j) v s n e l = absurd (omega (arith, n))

    by_entries : map (registers_to new) (below (firsts N f Z ok)) ≡ map reader_of (entry_places N f Z)
    unfolding places
    by_entries =
        ext_get_or 0 (map (registers_to new) (below (length (entry_places N f Z)))) (map reader_of (entry_places N f Z)) (length_listed (registers_to new) (length (entry_places N f Z)) ∙ sym (length-map (entry_places N f Z) reader_of))
        (λ v l.
        let k : v < length (entry_places N f Z) = omega (arith, length_listed (registers_to new) (length (entry_places N f Z))) in
        let h : v < length (places N f Z) = omega (arith, length-append (entry_places N f Z) (reg_places N f Z)) in
        let pl = get_or (places N f Z) v no_place in
        get_or_listed (registers_to new) (length (entry_places N f Z)) v 0 k
        ∙ at_place pl v (places_sound N f Z v h) (number_of_place N f Z v h) (place_node N f Z v h) k
        ∙ ap reader_of (get_or-append (entry_places N f Z) (reg_places N f Z) no_place v k)
        ∙ sym (get_or_map-lt reader_of (entry_places N f Z) v no_place 0 k))

    registers_are : count_of is_register new ≡ length (reg_places N f Z)
    unfolding places
    registers_are =
        let last = registers_last N f Z ok rooted in
        omega (arith, sources_others new, source_count last, size-places N f Z, length-append (entry_places N f Z) (reg_places N f Z))

    -- the sum is all registers
    pub total_by_reader : total (by_reader new) ≡ count_of is_register new
    total_by_reader = ap total (reader_list (registers_last N f Z ok rooted) ∙ by_entries) ∙ sym length_reg_places ∙ sym registers_are
