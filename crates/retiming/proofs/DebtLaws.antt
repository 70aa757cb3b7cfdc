-- 11, 12 and 13 of a netlist, each if and only if, with its place. Assumes nothing.
use Rattle.std.specs.Prelude.{◌≡◌, ◌↔◌, ◌⊎◌, true, false, ℕ, ◌<◌}
use Rattle.std.proofs.Common.{sym, ◌∙◌, inl, inr, ⊎_elim}
use Rattle.std.proofs.lemmas.Bool.{false≢true}
use borrow.Author.Tests.{lt-ltb, ltb-true}
use Rattle.lists.proofs.BelowLaws.{true_or_false}
use Rattle.netlist.specs.Net.{Net, size, element_at, is_input, Sourced}
use Rattle.netlist.specs.Verdict.{Refuses}
use Rattle.retiming.specs.Leads.{lead, closed_debt, owing_port}
use Rattle.retiming.proofs.Owing.{owing_is, is_owing, no_lead, not_owing}
use Rattle.retiming.specs.LeadsLaws.{PositiveClosed}
use Rattle.retiming.proofs.LeadsLaws.{closed_debt_iff}
use Rattle.retiming.specs.Rewrite.{rewritten}
use Rattle.retiming.specs.Debt.{grown, debt_stages, debt_verdict}
use Rattle.retiming.proofs.ThreeChecks.{LowestAt, search, says_11_iff, says_12_iff, says_13_iff}

-- 12's place: the lowest input port with a positive lead
pub record LowestOwing (N : Net) (v : ℕ) : Type 0 where
  pub inside : v < size N
  pub input : is_input (element_at N v) ≡ true
  pub owes : 0 < lead N v
  pub none_lower : (u : ℕ) → u < v → is_input (element_at N u) ≡ true → lead N u ≡ 0

-- no input port has a positive lead
abbrev pub NoneOwes : Net → Type 0
NoneOwes N = (v : ℕ) → v < size N → owing_port N v ≡ false

module _ (N : Net) where
  to_lowest : (v : ℕ) → LowestOwing N v → LowestAt (size N) (owing_port N) v
  to_lowest v r = record { inside = r.inside; found = is_owing N v r.input r.owes; none_lower = λ u l. not_owing N u (r.none_lower u l) }

  from_lowest : (v : ℕ) → LowestAt (size N) (owing_port N) v → LowestOwing N v
  from_lowest v r = let o = owing_is N v r.found in record { inside = r.inside; input = o.0; owes = o.1; none_lower = λ u l. no_lead N u (r.none_lower u l) }

  -- some port owes, and then a lowest; or none does
  pub search_ports : ((v : ℕ) × LowestOwing N v) ⊎ NoneOwes N
  search_ports = ⊎_elim (λ (v, r). inl (v, from_lowest v r)) (λ n. inr n) (search (size N) (owing_port N))

module _ (N : Net) (sourced : Sourced N) where
  pub no_closed : closed_debt N ≡ false → PositiveClosed N → ⊥
  no_closed t c = false≢true (sym t ∙ (closed_debt_iff N sourced).1 c)

  pub closed_none : (PositiveClosed N → ⊥) → closed_debt N ≡ false
  closed_none h = ⊎_elim (λ t. absurd (h ((closed_debt_iff N sourced).0 t))) (λ t. t) (true_or_false (closed_debt N))

  -- 11: a closed walk has positive excess
  pub refuses_11_iff : debt_verdict N ≡ Refuses 11 65535 ↔ PositiveClosed N
  unfolding debt_verdict debt_stages
  refuses_11_iff = simp (says_11_iff (closed_debt N) (size N) (owing_port N) (grown (rewritten N))) (closed_debt_iff N sourced)

  -- 12: no closed walk has, and v is the lowest input port with a positive lead
  pub refuses_12_iff : (v : ℕ) → debt_verdict N ≡ Refuses 12 v ↔ ((PositiveClosed N → ⊥) × LowestOwing N v)
  unfolding debt_verdict debt_stages
  refuses_12_iff v =
      let r = says_12_iff (closed_debt N) (size N) (owing_port N) (grown (rewritten N)) v in
      (λ e. let a = r.0 e in (no_closed a.0, from_lowest N v a.1), λ (c, a). r.1 (closed_none c, to_lowest N v a))

  -- 13: neither, and the rewritten netlist has over 1,024 nodes
  pub refuses_13_iff : debt_verdict N ≡ Refuses 13 65535 ↔ ((PositiveClosed N → ⊥) × NoneOwes N × (1024 < size (rewritten N)))
  unfolding debt_verdict debt_stages grown
  refuses_13_iff =
      let r = says_13_iff (closed_debt N) (size N) (owing_port N) (grown (rewritten N)) in
      (λ e. let a = r.0 e in (no_closed a.0, a.1, ltb-true 1024 (size (rewritten N)) a.2), λ (c, n, g). r.1 (closed_none c, n, lt-ltb 1024 (size (rewritten N)) g))
