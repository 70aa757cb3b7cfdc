-- A netlist that gets past 11 to 13 has no debt, and its rewritten netlist is within bounds. Assumes nothing.
use Rattle.std.specs.Prelude.{◌≡◌, Bool, false, ℕ, ◌<◌}
use Rattle.std.proofs.Common.{sym, ◌∙◌, ⊎_elim, ltb-false}
use Rattle.std.proofs.lemmas.Bool.{false≢true}
use Rattle.lists.specs.Lists.{any_below}
use Rattle.lists.proofs.BelowLaws.{true_or_false, any_below_elim}
use Rattle.netlist.specs.Net.{Net, size}
use Rattle.netlist.specs.Verdict.{Fine}
use Rattle.netlist.specs.Checks.{Bounds}
use Rattle.retiming.specs.Leads.{closed_debt, owing_port, port_debt}
use Rattle.retiming.specs.Debt.{grown, debt_stages, debt_verdict}
use Rattle.retiming.specs.Rewrite.{rewritten}
use Rattle.retiming.proofs.ThreeChecks.{says_fine_only}

-- 13
pub bounded : (M : Net) → grown M ≡ false → Bounds M
unfolding grown
bounded M e = record { nodes = ltb-false 1024 (size M) e }

-- 12: where no port is found, none owes
pub no_port : (n : ℕ) (owing : ℕ → Bool) → ((v : ℕ) → v < n → owing v ≡ false) → any_below n owing ≡ false
no_port n owing h = ⊎_elim (λ t. let r = any_below_elim n owing t in absurd (false≢true (sym (h r.0 r.1) ∙ r.2))) (λ t. t) (true_or_false (any_below n owing))

-- 11, 12 and 13
pub no_debt : (N : Net) → debt_verdict N ≡ Fine → (closed_debt N ≡ false) × (port_debt N ≡ false) × (grown (rewritten N) ≡ false)
unfolding debt_verdict debt_stages port_debt
no_debt N e = let r = says_fine_only (closed_debt N) (size N) (owing_port N) (grown (rewritten N)) e in (r.0, no_port (size N) (owing_port N) r.1, r.2)
