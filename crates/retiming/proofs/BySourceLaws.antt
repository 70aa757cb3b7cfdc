-- Of a netlist without rings of registers: what stands on a wire from u, step by step; and every register is counted at one source. Assumes nothing.
use Rattle.std.specs.Prelude.{◌≡◌, false, ℕ, zero, suc, ◌+◌, ◌≤◌, ◌<◌, length}
use Rattle.std.proofs.Common.{sym, ◌∙◌, ⊎_elim, arith}
use Rattle.std.proofs.Math.Path.{ap, ap₂}
use Rattle.std.proofs.Math.Bool.{true, not, ◌&&◌}
use Rattle.std.proofs.Math.Dec.{eqb}
use Rattle.lists.specs.Lists.{total}
use Rattle.lists.proofs.BelowLaws.{true_or_false, and_left, and_right, eqb-true, eqb_self, count_below_not}
use Rattle.lists.proofs.ListsLaws.{length-select}
use Rattle.lists.proofs.TotalLaws.{total_fallen}
use Rattle.netlist.specs.Net.{Net, size, element_at, source, is_register, count_of, Sourced}
use Rattle.retiming.specs.Rewrite.{root, passed}
use Rattle.retiming.specs.Wires.{Rooted}
use Rattle.retiming.proofs.Wires.{behind, root_within, wire_next, wire_none}
use Rattle.retiming.proofs.New.{passed_at_most}
use Rattle.retiming.specs.BySource.{on_wire_from, registers_from, by_source}
use Rattle.retiming.specs.BySourceLaws.{FromSource, reads_it, reads_next}

-- ---- how many numbers there are

pub length_by_source : (M : Net) → length (by_source M) ≡ count_of (λ e. not (is_register e)) M
unfolding by_source
length_by_source M = length-select (λ v. not (is_register (element_at M v))) (registers_from M) (size M)

pub sources_others : (M : Net) → length (by_source M) + count_of is_register M ≡ size M
sources_others M = omega (arith, length_by_source M, count_below_not (λ v. is_register (element_at M v)) (size M))

module _ (M : Net) (sourced : Sourced M) (rooted : Rooted M) where
  root_other : (s : ℕ) → s < size M → is_register (element_at M (root M s)) ≡ false
  unfolding Rooted
  root_other s h = rooted s h

  -- ---- the sum is all registers
  pub total_by_source : total (by_source M) ≡ count_of is_register M
  unfolding by_source registers_from on_wire_from
  total_by_source =
      total_fallen (λ v. not (is_register (element_at M v))) (λ s. is_register (element_at M s)) (root M) (size M) (size M)
      (λ s h e. (root_within M sourced s h, ap not (root_other s h)))

  -- ---- what is counted at u

  module _ (u : ℕ) (other : is_register (element_at M u) ≡ false) where
    from_steps : {s : ℕ} → s < size M → FromSource M u s → root M s ≡ u
    from_steps {s} h (reads_it r e) = (wire_next M rooted s h r).0 ∙ ap (root M) e ∙ (wire_none M u other).0
    from_steps {s} h (reads_next r t) = (wire_next M rooted s h r).0 ∙ from_steps (behind M sourced s h r) t

    -- by the number of registers on the way back
    to_steps : (k s : ℕ) → s < size M → is_register (element_at M s) ≡ true → passed M s ≤ k → root M s ≡ u → FromSource M u s
    to_steps zero s h r few e = absurd (omega (arith, (wire_next M rooted s h r).1))
    to_steps (suc k) s h r few e =
        let w = wire_next M rooted s h r in
        ⊎_elim
        (λ (t : is_register (element_at M (source M s 0)) ≡ true). reads_next r (to_steps k (source M s 0) (behind M sourced s h r) t (omega (arith, w.1)) (sym w.0 ∙ e)))
        (λ (t : is_register (element_at M (source M s 0)) ≡ false). reads_it r (sym (wire_none M (source M s 0) t).0 ∙ sym w.0 ∙ e))
        (true_or_false (is_register (element_at M (source M s 0))))

    -- counted at u, just when steps from register to register lead to it
    pub from_source : (s : ℕ) → s < size M → (on_wire_from M u s ≡ true → FromSource M u s) × (FromSource M u s → on_wire_from M u s ≡ true)
    unfolding on_wire_from
    from_source s h = (
      λ e. to_steps (size M) s h (and_left (is_register (element_at M s)) (eqb (root M s) u) e) (passed_at_most M s) (eqb-true (and_right (is_register (element_at M s)) (eqb (root M s) u) e)),
      λ t. ap₂ ◌&&◌ (is_register_lem t) (ap (λ (v : ℕ). eqb v u) (from_steps h t) ∙ eqb_self u),
    )
      where
        is_register_lem : FromSource M u s → is_register (element_at M s) ≡ true
        is_register_lem (reads_it r e) = r
        is_register_lem (reads_next r t) = r
