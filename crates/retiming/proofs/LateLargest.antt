-- Laws of what specs/LateLargest.antt defines. Assumes nothing.
use Rattle.std.specs.Prelude.{◌≡◌, Bool, true, false, ℕ, ◌+◌, ◌≤◌, ◌<◌}
use Rattle.std.proofs.Math.Path.{ap}
use Rattle.std.proofs.Common.{⊎_elim, arith}
use Rattle.lists.proofs.BelowLaws.{true_or_false, lt_or_le}
use Rattle.netlist.specs.Net.{Net, size, Sourced}
use Rattle.retiming.specs.Leads.{Walk, here, step, leaves, enters}
use Rattle.retiming.proofs.Walks.{walk_inside}
use Rattle.retiming.specs.LateLeads.{origin, Counts, lead_to, closed_debt_to}
use Rattle.retiming.specs.LateLeadsLaws.{PositiveClosedTo}
use Rattle.retiming.proofs.LateLeadsLaws.{closed_debt_iff, round_inside, lead_reached, lead_bounds_walk, origin_positive}
use Rattle.retiming.specs.LateLargest.{LargestExcessTo, Tells}

-- where 11 does not apply: a node from which a walk counts has the largest excess as its lead, and one from which none does has 0
pub lead-largest : (N : Net) (ends : ℕ → Bool) → Sourced N → closed_debt_to N ends ≡ false → (u : ℕ) → u < size N → Counts N ends u → LargestExcessTo N ends u (lead_to N ends u)
lead-largest N ends sourced debtless u h c =
    let r = lead_reached N ends u h (lead_bounds_walk N ends sourced debtless c.walk h c.ending).0 in
    record { bounds = λ d. (lead_bounds_walk N ends sourced debtless d.walk h d.ending).1; most = record { end = r.0; walk = r.1; ending = r.2 }; reaches = r.3 }

pub lead_none : (N : Net) (ends : ℕ → Bool) (u : ℕ) → u < size N → (Counts N ends u → ⊥) → lead_to N ends u ≡ 0
lead_none N ends u h none =
    ⊎_elim (λ l. let r = lead_reached N ends u h l in absurd (none (record { end = r.0; walk = r.1; ending = r.2 }))) (λ l. omega arith) (lt_or_le 0 (lead_to N ends u))

module _ (N : Net) (ends : ℕ → Bool) (sourced : Sourced N) (g : ℕ → ℕ) (t : Tells N ends g) where
  told_bound : {u v : ℕ} (w : Walk N u v) → 0 < g v → (0 < g u) × (leaves w + g v ≤ enters w + g u)
  unfolding leaves enters
  told_bound (here e) pos = (omega (arith, ap g e), omega (arith, ap g e))
  told_bound (step r w) pos = let b = told_bound w pos in let s = t.serves r b.0 in (s.0, omega (arith, b.1, s.1))

  told_from : {u v : ℕ} (w : Walk N u v) → u < size N → ends v ≡ true → (0 < g u) × (origin N + leaves w ≤ enters w + g u)
  told_from w h e =
      let l = t.from_end _ (walk_inside w h) e in
      let b = told_bound w (omega (arith, origin_positive N ends, l)) in (b.0, omega (arith, b.1, l))

  pub told_debtless : closed_debt_to N ends ≡ false
  told_debtless = ⊎_elim (λ d. absurd (clash ((closed_debt_iff N ends sourced).0 d))) (λ d. d) (true_or_false (closed_debt_to N ends))
    where
      clash : PositiveClosedTo N ends → ⊥
      clash c =
          let h : c.node < size N = round_inside N ends sourced c.round (omega (arith, c.owes)) in
          let b : leaves c.round + g c.node ≤ enters c.round + g c.node = (told_bound c.round (told_from c.out.walk h c.out.ending).0).1 in
          omega (arith, c.owes)

  pub leads_pinned : (u : ℕ) → u < size N → g u ≡ lead_to N ends u
  leads_pinned u h = ⊎_elim (λ l. found l (t.told u h l)) (λ l. lost l) (lt_or_le 0 (g u))
    where
      found : 0 < g u → (v : ℕ) × (w : Walk N u v) × (ends v ≡ true) × (origin N + leaves w ≡ enters w + g u) → g u ≡ lead_to N ends u
      found l (v, w, e, k) =
          let b = lead_bounds_walk N ends sourced told_debtless w h e in
          let r = lead_reached N ends u h b.0 in
          omega (arith, b.1, k, r.3, (told_from r.1 h r.2).1)

      lost : g u ≤ 0 → g u ≡ lead_to N ends u
      lost l = ⊎_elim (λ m. let r = lead_reached N ends u h m in absurd (omega (arith, (told_from r.1 h r.2).0))) (λ m. omega arith) (lt_or_le 0 (lead_to N ends u))
