-- An entry as the code reads it: its old node, and its wires one after the other. Assumes nothing.
use Rattle.std.specs.Prelude.{◌≡◌, List, ℕ, ◌+◌, ◌*◌, ◌≤◌, ◌<◌, get_or}
use Rattle.std.proofs.Common.{refl, sym, ap, subst, ◌∙◌, arith}
use Rattle.netlist.specs.Net.{Net, size, element_at, operands}
use Rattle.retiming.specs.Rewrite.{Timing}
use Rattle.plan.specs.Areas.{owners_in, words_in}
use Rattle.plan.specs.Registers.{entry_count}
use Rattle.plan.specs.RegistersRow.{reader_stands}
use Rattle.plan.specs.OperandAt.{owner_is}
use Rattle.steering.specs.GatesTo.{GatesIn}
use Rattle.steering.specs.GatesArea.{owner_still, gates_rest}

module _ {N : Net} {f : Timing} (plan : List ℕ) {e entries m total : ℕ} (d : GatesIn N f plan m total) (ne : entries ≡ entry_count N f) (few : entries ≤ 1024) (h : e < entries) where
  within : e < entry_count N f
  within = omega arith

  owner_read : get_or plan e 0 ≡ get_or (owners_in plan) e 0
  owner_read = owner_is N f within plan (omega arith) refl

  pub owner_inside : get_or plan e 0 < size N
  owner_inside = omega (arith, owner_read, (reader_stands N f (owners_in plan) (words_in plan) d.held e within).inside)

  -- while its gates are put, its old node stays
  module _ (more : List ℕ) {m' total' : ℕ} (d' : GatesIn N f more m' total') where
    owner_now : get_or plan e 0 ≡ get_or (owners_in more) e 0
    owner_now = owner_read ∙ owner_still N f within d d'

    count_now : {n : ℕ} → n ≡ operands (element_at N (get_or plan e 0)) → n ≡ operands (element_at N (get_or (owners_in more) e 0))
    count_now q = q ∙ ap (λ (v : ℕ). operands (element_at N v)) owner_now

    pub node_now : get_or plan e 0 ≡ get_or more e 0
    node_now = owner_now ∙ sym (owner_is N f within more (omega arith) refl)

    pub operand_now : {n p : ℕ} → n ≡ operands (element_at N (get_or plan e 0)) → p < n → p < operands (element_at N (get_or (owners_in more) e 0))
    operand_now q l = omega (arith, count_now q)

    pub entry_done : {n : ℕ} → n ≡ operands (element_at N (get_or plan e 0)) → m' ≡ 3 * e + n → GatesIn N f more (3 * e + 3) total'
    entry_done q z = gates_rest N f within (count_now q) (subst (λ (i : ℕ). GatesIn N f more i total') z d')
