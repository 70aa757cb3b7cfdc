-- The late start's 11, 12 and 13 of a netlist, each if and only if, with its place. Assumes nothing.
use Rattle.std.specs.Prelude.{◌≡◌, ◌↔◌, true, false, ℕ, ◌<◌}
use Rattle.std.proofs.Common.{sym, ◌∙◌, ⊎_elim, arith}
use Rattle.std.proofs.lemmas.Bool.{false≢true}
use borrow.Author.Tests.{lt-ltb, ltb-true}
use Rattle.lists.proofs.BelowLaws.{true_or_false}
use Rattle.netlist.specs.Net.{Net, size, element_at, is_input, Sourced}
use Rattle.netlist.specs.Verdict.{Refuses}
use Rattle.retiming.specs.LateLeads.{at_output, late_ends, closed_debt_to, owing_port_to}
use Rattle.retiming.proofs.LateLeadsLaws.{closed_debt_iff, owes_iff, owing_is, is_owing}
use Rattle.retiming.specs.LateRewrite.{late_started}
use Rattle.retiming.specs.Debt.{grown}
use Rattle.retiming.specs.LateDebt.{late_stages, late_verdict}
use Rattle.retiming.proofs.ThreeChecks.{LowestAt, NoneAt, says_11_iff, says_12_iff, says_13_iff}
use Rattle.retiming.specs.LateDebtLaws.{LateClosed, LateOwes, LowestLate, NoneLate}

module _ (N : Net) (sourced : Sourced N) where
  late_closed_iff : closed_debt_to N (late_ends N) ≡ true ↔ LateClosed N
  unfolding late_ends
  late_closed_iff = closed_debt_iff N (at_output N) sourced

  no_closed : closed_debt_to N (late_ends N) ≡ false → LateClosed N → ⊥
  no_closed t c = false≢true (sym t ∙ late_closed_iff.1 c)

  closed_none : (LateClosed N → ⊥) → closed_debt_to N (late_ends N) ≡ false
  closed_none h = ⊎_elim (λ t. absurd (h (late_closed_iff.0 t))) (λ t. t) (true_or_false (closed_debt_to N (late_ends N)))

  module _ (t : closed_debt_to N (late_ends N) ≡ false) where
    owes : (v : ℕ) → v < size N → owing_port_to N (late_ends N) v ≡ true → (is_input (element_at N v) ≡ true) × LateOwes N v
    owes v h e = let o = owing_is N (late_ends N) v e in (o.0, (owes_iff N (late_ends N) sourced t v h).0 o.1)

    owing : (v : ℕ) → v < size N → is_input (element_at N v) ≡ true → LateOwes N v → owing_port_to N (late_ends N) v ≡ true
    owing v h i o = is_owing N (late_ends N) v i ((owes_iff N (late_ends N) sourced t v h).1 o)

    not_owing : (v : ℕ) → v < size N → (is_input (element_at N v) ≡ true → LateOwes N v → ⊥) → owing_port_to N (late_ends N) v ≡ false
    not_owing v h none = ⊎_elim (λ e. let o = owes v h e in absurd (none o.0 o.1)) (λ e. e) (true_or_false (owing_port_to N (late_ends N) v))

    to_lowest : (v : ℕ) → LowestLate N v → LowestAt (size N) (owing_port_to N (late_ends N)) v
    to_lowest v r = record {
      inside = r.inside;
      found = owing v r.inside r.input r.owes;
      none_lower = λ u l. not_owing u (omega (arith, r.inside)) (r.none_lower u l);
    }

    from_lowest : (v : ℕ) → LowestAt (size N) (owing_port_to N (late_ends N)) v → LowestLate N v
    from_lowest v r =
        let o = owes v r.inside r.found in
        record { inside = r.inside; input = o.0; owes = o.1; none_lower = λ u l i o. false≢true (sym (r.none_lower u l) ∙ owing u (omega (arith, r.inside)) i o) }

    to_none : NoneLate N → NoneAt (size N) (owing_port_to N (late_ends N))
    to_none n v h = not_owing v h (n v h)

    from_none : NoneAt (size N) (owing_port_to N (late_ends N)) → NoneLate N
    from_none n v h i o = false≢true (sym (n v h) ∙ owing v h i o)

  -- 11: a closed walk that can reach an output has positive excess
  pub late_11_iff : late_verdict N ≡ Refuses 11 65535 ↔ LateClosed N
  unfolding late_verdict late_stages
  late_11_iff = simp (says_11_iff (closed_debt_to N (late_ends N)) (size N) (owing_port_to N (late_ends N)) (grown (late_started N))) late_closed_iff

  -- 12: none has, and v is the lowest input port from which a walk to an output port has
  pub late_12_iff : (v : ℕ) → late_verdict N ≡ Refuses 12 v ↔ ((LateClosed N → ⊥) × LowestLate N v)
  unfolding late_verdict late_stages
  late_12_iff v =
      let r = says_12_iff (closed_debt_to N (late_ends N)) (size N) (owing_port_to N (late_ends N)) (grown (late_started N)) v in
      (λ e. let a = r.0 e in (no_closed a.0, from_lowest a.0 v a.1), λ (c, a). r.1 (closed_none c, to_lowest (closed_none c) v a))

  -- 13: neither, and the late-started netlist has over 1,024 nodes
  pub late_13_iff : late_verdict N ≡ Refuses 13 65535 ↔ ((LateClosed N → ⊥) × NoneLate N × (1024 < size (late_started N)))
  unfolding late_verdict late_stages grown
  late_13_iff =
      let r = says_13_iff (closed_debt_to N (late_ends N)) (size N) (owing_port_to N (late_ends N)) (grown (late_started N)) in (
        λ e. let a = r.0 e in (no_closed a.0, from_none a.0 a.1, ltb-true 1024 (size (late_started N)) a.2),
        λ (c, n, g). r.1 (closed_none c, to_none (closed_none c) n, lt-ltb 1024 (size (late_started N)) g),
      )
