-- Laws of what specs/PortWalks.antt defines. Assumes nothing.
use Rattle.std.specs.Prelude.{◌≡◌, ◌↔◌, true, false, ℕ, ◌<◌}
use Rattle.std.proofs.Common.{sym, ◌∙◌, ⊎_elim, arith}
use Rattle.std.proofs.lemmas.Bool.{false≢true}
use Rattle.lists.proofs.BelowLaws.{true_or_false, lt_or_le}
use Rattle.netlist.specs.Net.{Net, size, element_at, is_input, Sourced}
use Rattle.netlist.specs.Places.{LowestOf}
use Rattle.retiming.specs.Leads.{lead, closed_debt, owing_port}
use Rattle.retiming.proofs.Owing.{owing_is, is_owing}
use Rattle.retiming.proofs.Largest.{positive_lead_iff}
use Rattle.retiming.proofs.DebtLaws.{LowestOwing, NoneOwes}
use Rattle.retiming.specs.PortWalks.{PortOwes}

module _ (N : Net) (sourced : Sourced N) (debtless : closed_debt N ≡ false) where
  pub lead_owes : (v : ℕ) → v < size N → is_input (element_at N v) ≡ true → 0 < lead N v → PortOwes N v
  lead_owes v h i l = let w = (positive_lead_iff N sourced debtless v h).0 l in record { input = i; end = w.0; walk = w.1; owes = w.2 }

  pub owes_lead : (v : ℕ) → v < size N → PortOwes N v → 0 < lead N v
  owes_lead v h w = (positive_lead_iff N sourced debtless v h).1 (w.end, w.walk, w.owes)

  pub lowest-owing : (v : ℕ) → LowestOwing N v ↔ LowestOf (size N) (PortOwes N) v
  lowest-owing v = (
    λ r. record {
      inside = r.inside;
      holds = lead_owes v r.inside r.input r.owes;
      none_lower = λ u l w. omega (arith, owes_lead u (let h = r.inside in omega arith) w, r.none_lower u l w.input);
    },
    λ r. record {
      inside = r.inside;
      input = r.holds.input;
      owes = owes_lead v r.inside r.holds;
      none_lower = λ u l i. ⊎_elim (λ k. absurd (r.none_lower u l (lead_owes u (let h = r.inside in omega arith) i k))) (λ k. omega arith) (lt_or_le 0 (lead N u));
    },
  )

  pub none_owes : NoneOwes N ↔ ((v : ℕ) → v < size N → PortOwes N v → ⊥)
  none_owes = (
    λ n v h w. false≢true (sym (n v h) ∙ is_owing N v w.input (owes_lead v h w)),
    λ n v h. ⊎_elim (λ t. let o = owing_is N v t in absurd (n v h (lead_owes v h o.0 o.1))) (λ t. t) (true_or_false (owing_port N v)),
  )
