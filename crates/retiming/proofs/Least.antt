-- Laws of what specs/Least.antt defines. Assumes nothing.
use Rattle.std.specs.Prelude.{◌≡◌, false, cond, ℕ, suc, ◌+◌, ◌-◌, ◌≤◌, ◌<◌}
use Rattle.std.proofs.Common.{sym, ap, ◌∙◌, arith}
use Rattle.std.proofs.Math.Path.{subst}
use Rattle.std.proofs.Math.Logic.{⊎_elim}
use Rattle.std.proofs.Math.Bool.{true}
use Rattle.lists.proofs.BelowLaws.{true_or_false}
use Rattle.netlist.specs.Net.{Net, size, element_at, source, operands, is_register, Sourced}
use Rattle.netlist.proofs.Memories.{memory_kinds}
use Rattle.retiming.specs.Leads.{async_here, register_here, lead}
use Rattle.retiming.specs.Rewrite.{root, passed, own_here, memory_at}
use Rattle.retiming.proofs.Elements.{register_no_port, async_le}
use Rattle.retiming.specs.LeadsLaws.{Serves}
use Rattle.retiming.proofs.LeadsLaws.{lead_least}
use Rattle.retiming.specs.Wires.{Rooted}
use Rattle.retiming.proofs.Wires.{wire_next, wire_none, rom-zero}
use Rattle.retiming.specs.Least.{ServesWires}

module _ (N : Net) (sourced : Sourced N) (rooted : Rooted N) (g : ℕ → ℕ) (serves : ServesWires N g) where
  -- a register's number, from its wire
  extended : ℕ → ℕ
  extended s = cond (is_register (element_at N s)) ((passed N s + g (root N s)) - async_here N (root N s)) (g s)

  extended_register : (s : ℕ) → is_register (element_at N s) ≡ true → extended s ≡ (passed N s + g (root N s)) - async_here N (root N s)
  unfolding extended
  extended_register s e = rw e

  extended_other : (s : ℕ) → is_register (element_at N s) ≡ false → extended s ≡ g s
  unfolding extended
  extended_other s e = rw e

  served : (x p : ℕ) → x < size N → is_register (element_at N x) ≡ false → p < operands (element_at N x)
      → async_here N (root N (source N x p)) + g x ≤ passed N (source N x p) + g (root N (source N x p))
  unfolding ServesWires memory_at own_here async_here
  served x p h o q = omega (arith, serves x p h o q, memory_kinds (element_at N (root N (source N x p))))

  into_register : (x : ℕ) → x < size N → is_register (element_at N x) ≡ true → async_here N (source N x 0) + extended x ≤ extended (source N x 0) + 1
  into_register x h e =
      let s : ℕ = source N x 0 in
      let w : (root N x ≡ root N s) × (passed N x ≡ suc (passed N s)) = wire_next N rooted x h e in
      ⊎_elim
      (λ t. omega (arith, w.1, ap g w.0, ap (async_here N) w.0, extended_register x e, extended_register s t, rom-zero N s t, async_le N (root N s)))
      (λ t. let v : (root N s ≡ s) × (passed N s ≡ 0) = wire_none N s t in
      omega (arith, w.1, ap g (w.0 ∙ v.0), ap (async_here N) (w.0 ∙ v.0), v.1, extended_register x e, extended_other s t, async_le N s))
      (true_or_false (is_register (element_at N s)))

  into_other : (x p : ℕ) → x < size N → is_register (element_at N x) ≡ false → p < operands (element_at N x) → async_here N (source N x p) + extended x ≤ extended (source N x p)
  into_other x p h o q =
      let s : ℕ = source N x p in
      ⊎_elim (λ t. omega (arith, served x p h o q, extended_other x o, extended_register s t, rom-zero N s t))
      (λ t. let v : (root N s ≡ s) × (passed N s ≡ 0) = wire_none N s t in
      omega (arith, served x p h o q, extended_other x o, extended_other s t, ap g v.0, ap (async_here N) v.0, v.1))
      (true_or_false (is_register (element_at N s)))

  extended_at : (x p : ℕ) → x < size N → p < operands (element_at N x) → async_here N (source N x p) + extended x ≤ extended (source N x p) + register_here N x
  unfolding register_here
  extended_at x p h q =
      ⊎_elim
      (λ t. rw t (subst (λ (k : ℕ). async_here N (source N x k) + extended x ≤ extended (source N x k) + 1) (sym (only_operand t)) (into_register x h t)))
      (λ t. rw t (omega (arith, into_other x p h t q)))
      (true_or_false (is_register (element_at N x)))
    where
      only_operand : is_register (element_at N x) ≡ true → p ≡ 0
      only_operand t = omega (arith, (register_no_port (element_at N x) t).2)

  extended_serves : Serves N extended
  unfolding Serves
  extended_serves x u r = subst (λ (k : ℕ). async_here N k + extended x ≤ extended k + register_here N x) r.from (extended_at x r.operand r.inside r.used)

  -- leads are the least that serve
  pub lead_least_wires : (u : ℕ) → u < size N → is_register (element_at N u) ≡ false → lead N u ≤ g u
  lead_least_wires u h o = omega (arith, lead_least N extended extended_serves u h, extended_other u o)
