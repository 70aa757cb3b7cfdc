-- Laws of what specs/LargestLead.antt defines. Assumes nothing.
use Rattle.std.specs.Prelude.{◌≡◌, ◌⊎◌, true, false}
use Rattle.std.proofs.Math.Path.{refl}
use Rattle.std.proofs.Common.{◌∙◌, inr}
use Rattle.std.proofs.Math.Logic.{inl, ⊎_elim}
use Prim.Native.Nat.{ℕ, ◌+◌, ◌≤◌, ◌<◌, zero-le}
use native.Mathlib.Omega.{arith}
use Rattle.lists.specs.Lists.{largest}
use Rattle.lists.proofs.BelowLaws.{true_or_false, largest-le, largest_is, largest_bound}
use Rattle.netlist.specs.Net.{Net, size, element_at, is_register, Sourced}
use Rattle.retiming.specs.Leads.{Walk, here, step, leaves, enters, lead, closed_debt}
use Rattle.retiming.proofs.Walks.{reads_inside}
use Rattle.retiming.proofs.LeadsLaws.{lead_bounds_walk, lead_reached}
use Rattle.retiming.proofs.Wires.{rom-zero}
use Rattle.retiming.specs.Preview.{own_lead, largest_lead_of}
use Rattle.retiming.specs.LargestLead.{LargestOfAll}

module _ (N : Net) where
  register_leads_none : (u : ℕ) → is_register (element_at N u) ≡ true → own_lead N u ≡ 0
  unfolding own_lead
  register_leads_none u r = rw r refl

  other_leads : (u : ℕ) → is_register (element_at N u) ≡ false → own_lead N u ≡ lead N u
  unfolding own_lead
  other_leads u r = rw r refl

  lead_within : {u : ℕ} → u < size N → is_register (element_at N u) ≡ false → lead N u ≤ largest_lead_of N
  unfolding largest_lead_of
  lead_within {u} h r = let e = other_leads u r in let l = largest-le (size N) (own_lead N) u h in omega arith

  -- the largest one, where it is above 0, is the lead of a node that is no register
  at_node : ((x : ℕ) × (x < size N) × (largest_lead_of N ≡ own_lead N x))
      → (largest_lead_of N ≡ 0) ⊎ ((u : ℕ) × (u < size N) × (is_register (element_at N u) ≡ false) × (v : ℕ) × (w : Walk N u v) × (leaves w ≡ enters w + largest_lead_of N))
  at_node (x, h, e) =
      ⊎_elim
      (λ (t : is_register (element_at N x) ≡ true). inl (e ∙ register_leads_none x t))
      (λ (t : is_register (element_at N x) ≡ false). let (v, w, q) = lead_reached N x h in let l = other_leads x t in inr (x, h, t, v, w, omega arith))
      (true_or_false (is_register (element_at N x)))

  module _ (sourced : Sourced N) (debtless : closed_debt N ≡ false) where
    -- a walk from a register has no more excess than the rest of it
    all_bounded : (u v : ℕ) (w : Walk N u v) → leaves w ≤ enters w + largest_lead_of N
    unfolding leaves enters
    all_bounded u v (here e) = zero-le
    all_bounded u v (step {x = x} r w) =
        ⊎_elim
        (λ (t : is_register (element_at N u) ≡ true). let none = rom-zero N u t in let rest = all_bounded x v w in omega arith)
        (λ (t : is_register (element_at N u) ≡ false). let b = lead_bounds_walk N sourced debtless (step r w) in let l = lead_within (reads_inside sourced r) t in omega arith)
        (true_or_false (is_register (element_at N u)))

    pub largest_of_all : LargestOfAll N (largest_lead_of N)
    unfolding largest_lead_of
    largest_of_all = record { bounds = all_bounded; reached = ⊎_elim inl at_node (largest_is (size N) (own_lead N)) }

    -- the largest of all leads: a register's is no larger
    pub leads-largest : (h : ℕ → ℕ) → ((v : ℕ) → v < size N → h v ≡ lead N v) → largest (size N) h ≡ largest_lead_of N
    unfolding largest_lead_of
    leads-largest h e = omega (arith, largest_bound (size N) h (largest_lead_of N) at_most, largest_bound (size N) (own_lead N) (largest (size N) h) at_least)
      where
        at_most : (u : ℕ) → u < size N → h u ≤ largest_lead_of N
        at_most u l = let (v, w, q) = lead_reached N u l in let b = all_bounded u v w in omega (arith, e u l)

        at_least : (u : ℕ) → u < size N → own_lead N u ≤ largest (size N) h
        at_least u l =
            ⊎_elim
            (λ (t : is_register (element_at N u) ≡ true). omega (arith, register_leads_none u t))
            (λ (t : is_register (element_at N u) ≡ false). omega (arith, other_leads u t, e u l, largest-le (size N) h u l))
            (true_or_false (is_register (element_at N u)))
