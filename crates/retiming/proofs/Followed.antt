-- The new netlist has a walk through the operands of an old one: from the root of the wire on which that begins to the root of the wire on which it ends, so closed
-- where that is. Document 02, T-07, over any timing that serves. Assumes nothing.
use Rattle.std.specs.Prelude.{◌≡◌, ◌⊎◌, true, false, cond, get_or}
use Rattle.std.proofs.Math.Path.{refl, sym, ap₂, subst}
use Rattle.std.proofs.Common.{ap, ◌∙◌, arith, lit<}
use Rattle.std.proofs.Math.Logic.{inl, inr, ⊎_elim}
use mathlib.Core.List.{List, [], ◌∷◌, ◌++◌, map}
use Prim.Native.Nat.{ℕ, zero, suc, ◌≤◌, ◌<◌}
use Rattle.lists.proofs.BelowLaws.{true_or_false}
use Rattle.netlist.specs.Net.{Net, size, element_at, source, operands, is_register, is_input, is_output}
use Rattle.netlist.specs.Reach.{Reads}
use Rattle.retiming.specs.Leads.{Walk, here, step}
use Rattle.retiming.specs.Rewrite.{Timing, Place, Entry, Reg, root, count_on, copy_on, new_table, along, new_element}
use Rattle.retiming.specs.Gates.{Spot, Old, Pick, shown_on, spot_number, picked, spot_node, gated_with}
use Rattle.retiming.proofs.Elements.{output_plain, input_plain, found_inside}
use Rattle.retiming.specs.Lengths.{Pin, pin, pins, itself, came_from, comes_from_by, LoopKept, PathKept}
use Rattle.retiming.proofs.Walks.{reads_inside}
use Rattle.retiming.specs.Wires.{Rooted}
use Rattle.retiming.proofs.Wires.{wire_none, root_within, kept_root}
use Rattle.retiming.specs.Layout.{Stands}
use Rattle.retiming.proofs.LayoutLaws.{along_reg, along-end, root_stands}
use Rattle.retiming.specs.GatesLayout.{SpotSound}
use Rattle.retiming.proofs.GatesLayout.{picked-gate, picked_wire}
use Rattle.retiming.specs.Candidate.{Retimes, sources}
use Rattle.retiming.proofs.Candidate.{operands-new, source-new}
use Rattle.retiming.proofs.New.{place_reads}
use Rattle.retiming.proofs.Standing.{stands_some, next_root}
use Rattle.retiming.proofs.ComesFrom.{spot_from}
use Rattle.retiming.proofs.AsLong.{loop_as_long, path_as_long}

module _ (N : Net) (f : Timing) (Z : ℕ → ℕ → ℕ) (ok : Retimes N f) where
  -- ---- backwards over a wire

  -- a walk from a spot to node j of the new netlist, and its operands
  record On (sp : Spot) (j : ℕ) (ps : List Pin) : Type 0 where
    walk : Walk (gated_with N f Z) (spot_number N f Z sp) j
    through : pins (comes_from_by N f Z) walk ≡ ps

  on_step : (sp : Spot) → SpotSound N f Z sp → (p : ℕ) → p < operands (spot_node N f Z sp).element → (to : Spot) → get_or (spot_node N f Z sp).sources p 0 ≡ spot_number N f Z to → {j : ℕ} {ps : List Pin}
      → On sp j ps → On to j (map (pin p) (came_from sp) ++ ps)
  unfolding pins place_reads
  on_step sp s p q to e o = record { walk = step (place_reads N f Z ok sp s p q to e) o.walk; through = ap₂ ◌++◌ (ap (map (pin p)) (spot_from N f Z sp s)) o.through }

  module _ (x c p : ℕ) (s : Stands N f Z x c) (q : p < operands (element_at N x)) {j : ℕ} {ps : List Pin} where
    into : On (Old (Entry x c)) j ps → On (picked N f Z x c p 0) j (pin p x ∷ ps)
    unfolding spot_node sources
    into o =
        let k : p < operands (new_element (element_at N x) (new_table N f Z x) c) = subst (λ (n : ℕ). p < n) (sym (operands-new (element_at N x) (new_table N f Z x) c)) q in
        on_step (Old (Entry x c)) s p k (picked N f Z x c p 0) (source-new N f Z x c p k) o

    over_gates : (k : ℕ) → k ≤ shown_on N f Z x p → On (picked N f Z x c p 0) j ps → On (picked N f Z x c p k) j ps
    unfolding spot_node
    over_gates zero l o = o
    over_gates (suc k) l o = on_step (Pick x c p k) (s, q, l) 1 (lit< tt) (picked N f Z x c p (suc k)) refl (subst (λ (sp : Spot). On sp j ps) (picked-gate N f Z x c p k l) (over_gates k (omega arith) o))

    over_registers : (k : ℕ) → k ≤ count_on N f Z x p → On (Old (along N f Z x c p 0)) j ps → On (Old (along N f Z x c p k)) j ps
    unfolding spot_node spot_number
    over_registers zero l o = o
    over_registers (suc k) l o =
        on_step (Old (Reg x c p k)) (s, q, l) 0 (lit< tt) (Old (along N f Z x c p (suc k))) refl (subst (λ (pl : Place). On (Old pl) j ps) (along_reg N f Z x c p k l) (over_registers k (omega arith) o))

  over_wire : (x c p : ℕ) → Stands N f Z x c → (q : p < operands (element_at N x)) → {j : ℕ} {ps : List Pin} → On (Old (Entry x c)) j ps → On (Old (Entry (root N (source N x p)) (copy_on N f Z x p))) j (pin p x ∷ ps)
  over_wire x c p s q {j} {ps} o =
      subst (λ (pl : Place). On (Old pl) j (pin p x ∷ ps)) (along-end N f Z x c p (count_on N f Z x p) (omega arith))
      (over_registers x c p s q (count_on N f Z x p) (omega arith)
      (subst (λ (sp : Spot). On sp j (pin p x ∷ ps)) (picked_wire N f Z x c p (shown_on N f Z x p) (omega arith)) (over_gates x c p s q (shown_on N f Z x p) (omega arith) (into x c p s q o))))

  -- ---- backwards over a walk

  -- "the copy that its next reader reads"
  first_copy : {s v : ℕ} → Walk N s v → ℕ → ℕ
  first_copy (here e) c = c
  first_copy (step {x = x} r w) c = cond (is_register (element_at N x)) (first_copy w c) (copy_on N f Z x r.operand)

  -- which copy the last node is matters to it only where no other node follows
  first-again : {s v : ℕ} (w : Walk N s v) (c : ℕ) → first_copy w (first_copy w c) ≡ first_copy w c
  unfolding first_copy
  first-again (here e) c = refl
  first-again (step {x = x} r w) c = ⊎_elim (λ t. rw t (first-again w c)) (λ t. rw t refl) (true_or_false (is_register (element_at N x)))

  record Followed (s v c copy : ℕ) (ps : List Pin) : Type 0 where
    on : On (Old (Entry (root N s) copy)) (spot_number N f Z (Old (Entry (root N v) c))) ps
    stands : Stands N f Z (root N s) copy

  past_node : (x s v c copy : ℕ) (ps : List Pin) (r : Reads N x s) → is_register (element_at N x) ≡ false → Followed x v c copy ps → Followed s v c (copy_on N f Z x r.operand) (pin r.operand x ∷ ps)
  past_node x s v c copy ps r t g =
      let e : root N x ≡ x = (wire_none N x t).0 in
      let st : Stands N f Z x copy = subst (λ (u : ℕ). Stands N f Z u copy) e g.stands in
      subst (λ (u : ℕ). Followed u v c (copy_on N f Z x r.operand) (pin r.operand x ∷ ps)) r.from
      (record {
        on = over_wire x copy r.operand st r.used (subst (λ (u : ℕ). On (Old (Entry u copy)) (spot_number N f Z (Old (Entry (root N v) c))) ps) e g.on);
        stands = root_stands N f Z ok.sourced ok.rooted ok.serves x copy r.operand st r.used;
      })

  past_register : (x s v c copy : ℕ) (ps : List Pin) (r : Reads N x s) → is_register (element_at N x) ≡ true → Followed x v c copy ps → Followed s v c copy ps
  past_register x s v c copy ps r t g =
      let e : root N x ≡ root N s = (next_root N f ok x s r t).0 in
      record { on = subst (λ (u : ℕ). On (Old (Entry u copy)) (spot_number N f Z (Old (Entry (root N v) c))) ps) e g.on; stands = subst (λ (u : ℕ). Stands N f Z u copy) e g.stands }

  follow : {s v : ℕ} (w : Walk N s v) (c : ℕ) → Stands N f Z (root N v) c → Followed s v c (first_copy w c) (pins (itself N) w)
  unfolding pins first_copy itself
  follow {s} {v} (here e) c st = subst (λ (u : ℕ). Followed u v c c []) (sym e) (record { on = record { walk = here refl; through = refl }; stands = st })
  follow {s} {v} (step {x = x} r w) c st =
      ⊎_elim (λ t. rw t (past_register x s v c (first_copy w c) (pins (itself N) w) r t (follow w c st)))
      (λ t. rw t (past_node x s v c (first_copy w c) (pins (itself N) w) r t (follow w c st)))
      (true_or_false (is_register (element_at N x)))

  -- ---- THE LAWS

  -- a walk begins at a node, or is empty
  begins_inside : {u v : ℕ} (w : Walk N u v) → (u < size N) ⊎ (pins (itself N) w ≡ [])
  unfolding pins
  begins_inside (here e) = inr refl
  begins_inside (step r w) = inl (reads_inside ok.sourced r)

  loop_at : {u : ℕ} (w : Walk N u u) → u < size N → f.keeps u ≡ true → LoopKept N (gated_with N f Z) (comes_from_by N f Z) w
  unfolding Rooted
  loop_at {u} w h k =
      let some = stands_some N f Z ok (root N u) (root_within N ok.sourced u h) (ok.rooted u h) (kept_root N ok.sourced f ok.serves u h k) in
      let c : ℕ = first_copy w some.0 in
      let on : On (Old (Entry (root N u) c)) (spot_number N f Z (Old (Entry (root N u) c))) (pins (itself N) w)
      = subst (λ (n : ℕ). On (Old (Entry (root N u) n)) (spot_number N f Z (Old (Entry (root N u) c))) (pins (itself N) w)) (first-again w some.0) (follow w c (follow w some.0 some.1).stands).on in
      record { node = spot_number N f Z (Old (Entry (root N u) c)); loop = on.walk; through = on.through; as_long = loop_as_long N f Z ok w }

  pub loop_kept : {u : ℕ} (w : Walk N u u) → (u < size N → f.keeps u ≡ true) → LoopKept N (gated_with N f Z) (comes_from_by N f Z) w
  unfolding pins
  loop_kept w k =
      ⊎_elim (λ h. loop_at w h (k h)) (λ e. record { node = 0; loop = here refl; through = sym e; as_long = loop_as_long N f Z ok w }) (begins_inside w)

  pub path_kept : {u v : ℕ} (w : Walk N u v) → is_input (element_at N u) ≡ true → is_output (element_at N v) ≡ true → PathKept N (gated_with N f Z) (comes_from_by N f Z) w
  path_kept {u} {v} w i o =
      let eu : root N u ≡ u = (wire_none N u (input_plain (element_at N u) i).0).0 in
      let pv = output_plain (element_at N v) o in
      let ev : root N v ≡ v = (wire_none N v pv.0).0 in
      let hv : v < size N = found_inside N is_output refl v o in
      let some = stands_some N f Z ok v hv pv.0 (ok.outputs_stay v hv o) in
      let c : ℕ = some.0 in
      let g : Followed u v c (first_copy w c) (pins (itself N) w) = follow w c (subst (λ (n : ℕ). Stands N f Z n c) (sym ev) some.1) in
      let first : Spot = Old (Entry (root N u) (first_copy w c)) in
      let last : Spot = Old (Entry (root N v) c) in
      record {
        first = spot_number N f Z first;
        last = spot_number N f Z last;
        begins = spot_from N f Z first g.stands ∙ ap (λ (n : ℕ). n ∷ []) eu;
        ends = spot_from N f Z last (subst (λ (n : ℕ). Stands N f Z n c) (sym ev) some.1) ∙ ap (λ (n : ℕ). n ∷ []) ev;
        path = g.on.walk;
        through = g.on.through;
        as_long = path_as_long N f Z ok w i o;
      }
