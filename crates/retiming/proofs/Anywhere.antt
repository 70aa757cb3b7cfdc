-- Laws of what specs/Anywhere.antt defines. Assumes nothing.
use Rattle.std.specs.Prelude.{◌≡◌, refl, Bool, false, ◌&&◌, ℕ, ◌+◌, ◌<◌}
use Rattle.std.proofs.Math.Path.{sym, ap}
use Rattle.std.proofs.Common.{◌∙◌, ⊎_elim, true≢false, arith}
use borrow.Author.Tests.{lt-ltb, le-ltb}
use Rattle.lists.proofs.BelowLaws.{true_or_false, lt_or_le}
use Rattle.netlist.specs.Net.{Net, size, element_at, is_input, Sourced}
use Rattle.retiming.specs.Leads.{here, lead, closed_debt, owing_port}
use Rattle.retiming.specs.LeadsLaws.{PositiveClosed}
use Rattle.retiming.proofs.LeadsLaws.{closed_debt_iff}
use Rattle.retiming.specs.Largest.{LargestExcess}
use Rattle.retiming.proofs.Largest.{lead-largest}
use Rattle.retiming.specs.LateLeads.{origin, Counts, lead_to, closed_debt_to, owing_port_to}
use Rattle.retiming.specs.LateLeadsLaws.{PositiveClosedTo}
use Rattle.retiming.proofs.LateLeadsLaws as late
use Rattle.retiming.specs.LateLargest.{LargestExcessTo}
use Rattle.retiming.proofs.LateLargest as largest
use Rattle.retiming.specs.Anywhere.{anywhere}

module _ (N : Net) (sourced : Sourced N) where
  -- every walk counts
  counts : (u : ℕ) → Counts N anywhere u
  counts u = record { end = u; walk = here refl; ending = refl }

  pub closed_same : closed_debt_to N anywhere ≡ closed_debt N
  closed_same =
      ⊎_elim (λ t. t ∙ sym ((closed_debt_iff N sourced).1 (to_plain ((late.closed_debt_iff N anywhere sourced).0 t))))
      (λ t. t ∙ sym (⊎_elim (λ k. absurd (true≢false (sym ((late.closed_debt_iff N anywhere sourced).1 (to_late ((closed_debt_iff N sourced).0 k))) ∙ t))) (λ k. k) (true_or_false (closed_debt N))))
      (true_or_false (closed_debt_to N anywhere))
    where
      to_plain : PositiveClosedTo N anywhere → PositiveClosed N
      to_plain c = record { node = c.node; round = c.round; owes = c.owes }

      to_late : PositiveClosed N → PositiveClosedTo N anywhere
      to_late c = record { node = c.node; round = c.round; owes = c.owes; out = counts c.node }

  module _ (debtless : closed_debt N ≡ false) where
    pub lead_same : (u : ℕ) → u < size N → lead_to N anywhere u ≡ origin N + lead N u
    lead_same u h = between (lead-largest N sourced debtless u h) (largest.lead-largest N anywhere sourced (closed_same ∙ debtless) u h (counts u))
      where
        between : LargestExcess N u (lead N u) → LargestExcessTo N anywhere u (lead_to N anywhere u) → lead_to N anywhere u ≡ origin N + lead N u
        between a b =
            omega (arith, a.reaches, b.reaches, a.bounds b.most.end b.most.walk, b.bounds (record { end = a.end; walk = a.walk; ending = refl }))

    pub owing_same : (v : ℕ) → v < size N → owing_port_to N anywhere v ≡ owing_port N v
    unfolding owing_port_to owing_port
    owing_same v h =
        ap (λ (b : Bool). is_input (element_at N v) && b)
        (⊎_elim (λ l. lt-ltb (origin N) (lead_to N anywhere v) (omega (arith, lead_same v h)) ∙ sym (lt-ltb 0 (lead N v) l))
        (λ l. le-ltb (origin N) (lead_to N anywhere v) (omega (arith, lead_same v h)) ∙ sym (le-ltb 0 (lead N v) l)) (lt_or_le 0 (lead N v)))
