-- Where no reader asks more, the numbers are the leads, counted from the origin; where one is over the bound, a closed walk that can go on to count has positive
-- excess. Assumes nothing.
use Rattle.std.specs.Prelude.{◌≡◌, Bool, true, false, List, ℕ, ◌+◌, ◌≤◌, ◌<◌, get_or}
use Rattle.std.proofs.Common.{subst, ⊎_elim, arith}
use Rattle.lists.proofs.BelowLaws.{true_or_false}
use Rattle.netlist.specs.Net.{Net, size, Sourced}
use Rattle.retiming.specs.Leads.{async_here, register_here}
use Rattle.retiming.specs.AtMostRoms.{rom_count}
use Rattle.retiming.proofs.AtMostRoms.{late_at_most_roms}
use Rattle.retiming.specs.Rewrite.{Timing}
use Rattle.retiming.specs.LateLeads.{origin, lead_to, closed_debt_to}
use Rattle.retiming.proofs.LateLeadsLaws.{lead_bounds_walk}
use Rattle.retiming.proofs.LateLargest.{told_debtless, leads_pinned}
use Rattle.retiming.proofs.LateSearch.{Searched, searched_tells}
use Rattle.leads.specs.Progress.{Walked, Quiet}

-- the numbers are those of a timing
abbrev pub LeadsIn : Net → Timing → List ℕ → Type 0
LeadsIn N f L = (v : ℕ) → v < size N → get_or L v 0 ≡ f.lead v

-- the numbers are the leads of walks to the ends, counted from the origin
abbrev pub Found : Net → (ℕ → Bool) → List ℕ → Type 0
Found N ends L = (v : ℕ) → v < size N → get_or L v 0 ≡ lead_to N ends v

-- these, or a closed debt
pub data Outcome (N : Net) (ends : ℕ → Bool) (L : List ℕ) : Bool → Type 0 where
  settled : closed_debt_to N ends ≡ false → Found N ends L → Outcome N ends L true
  debt : closed_debt_to N ends ≡ true → Outcome N ends L false

module _ (N : Net) (sourced : Sourced N) {bound : ℕ} {ends : ℕ → Bool} {L : List ℕ} (t : Walked N ends L) where
  searched : Quiet N bound (size N) L → ((v : ℕ) → v < size N → get_or L v 0 ≤ bound) → Searched N ends (λ v. get_or L v 0)
  searched q b = record {
    from_end = t.from_end;
    content = λ {x} r pos. subst (λ (v : ℕ). async_here N v + get_or L x 0 ≤ get_or L v 0 + register_here N x) r.from (q x r.inside pos (b x r.inside) r.operand r.used);
    told = t.told;
  }

  pub quiet_settled : Quiet N bound (size N) L → ((v : ℕ) → v < size N → get_or L v 0 ≤ bound) → Outcome N ends L true
  quiet_settled q b =
      let s = searched_tells N ends sourced (λ v. get_or L v 0) (searched q b) in
      settled (told_debtless N ends sourced (λ v. get_or L v 0) s) (leads_pinned N ends sourced (λ v. get_or L v 0) s)

  pub over_debt : bound ≡ origin N + rom_count N → (v : ℕ) → v < size N → bound < get_or L v 0 → Outcome N ends L false
  over_debt e v l o = debt (⊎_elim (λ d. d) (λ d. absurd (clash d)) (true_or_false (closed_debt_to N ends)))
    where
      clash : closed_debt_to N ends ≡ false → ⊥
      clash d =
          let w = t.told v l (omega arith) in
          omega (arith, w.3, (lead_bounds_walk N ends sourced d w.1 l w.2).1, late_at_most_roms N ends sourced d v l)
