-- Laws of what specs/Largest.antt defines. Assumes nothing.
use Rattle.std.specs.Prelude.{◌≡◌, ◌↔◌, false, ℕ, ◌+◌, ◌≤◌, ◌<◌}
use Rattle.std.proofs.Common.{⊎_elim, arith}
use Rattle.lists.proofs.BelowLaws.{true_or_false}
use Rattle.netlist.specs.Net.{Net, size, Sourced}
use Rattle.retiming.specs.Leads.{Walk, leaves, enters, lead, closed_debt}
use Rattle.retiming.specs.LeadsLaws.{Serves, PositiveClosed}
use Rattle.retiming.proofs.LeadsLaws.{closed_debt_iff, no_positive_closed, lead_bounds_walk, lead_reached, lead_least}
use Rattle.retiming.specs.Largest.{LargestExcess}

-- where 11 does not apply; elsewhere a walk may go round a closed one as often as it likes, and there is no largest
pub lead-largest : (N : Net) → Sourced N → closed_debt N ≡ false → (u : ℕ) → u < size N → LargestExcess N u (lead N u)
lead-largest N sourced debtless u h =
    let r = lead_reached N u h in record { bounds = λ v w. lead_bounds_walk N sourced debtless w; end = r.0; walk = r.1; reaches = r.2 }

-- so it is positive just where some walk has positive excess
pub positive_lead_iff : (N : Net) → Sourced N → closed_debt N ≡ false → (u : ℕ) → u < size N → (0 < lead N u) ↔ ((v : ℕ) × (w : Walk N u v) × (enters w < leaves w))
positive_lead_iff N sourced debtless u h =
    let r = lead-largest N sourced debtless u h in
    (λ l. (r.end, r.walk, omega (arith, r.reaches)), λ (v, w, l). omega (arith, r.bounds v w))

-- numbers that serve, each the excess of a walk, are the leads: whatever the order in which they were found

module _ (N : Net) (sourced : Sourced N) (g : ℕ → ℕ) (serves : Serves N g) where
  pub serving_debtless : closed_debt N ≡ false
  serving_debtless =
      ⊎_elim (λ t. let c : PositiveClosed N = (closed_debt_iff N sourced).0 t in
      let bound : leaves c.round ≤ enters c.round = no_positive_closed N g serves c.round in absurd (omega (arith, c.owes))) (λ t. t) (true_or_false (closed_debt N))

  pub lead_pinned : (u v : ℕ) → u < size N → (w : Walk N u v) → leaves w ≡ enters w + g u → lead N u ≡ g u
  lead_pinned u v h w e = omega (arith, lead_least N g serves u h, lead_bounds_walk N sourced serving_debtless w)
