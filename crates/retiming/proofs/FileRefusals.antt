-- The rewriter's own refusals of a file that the reader passes, each if and only if, with its place; and no refusal changes the lent output.
-- This rules out a rewriter that says 11 or 12 to everything, and one that says 14 before the length is known. Assumes nothing.
use Rattle.std.specs.Prelude.{◌≡◌, ◌↔◌, ◌⊎◌, false, List, ℕ, ◌<◌, length}
use Rattle.std.proofs.Common.{inl, inr, ⊎_elim, arith}
use Rattle.lists.proofs.BelowLaws.{true_or_false}
use Rattle.netlist.specs.Net.{Net, size}
use Rattle.netlist.specs.Checks.{WellFormed}
use Rattle.netlist.specs.Places.{LowestOf}
use Rattle.netlist.proofs.VerdictLaws.{reader_fine}
use Rattle.netlist.specs.Verdict.{reader_verdict, Fine, Refuses}
use Rattle.netlist.specs.File.{good, decode}
use Rattle.netlist.specs.declared.Answer.TheVariants.{Refused}
use Rattle.codec.specs.Bytes.{Bytes}
use Rattle.codec.proofs.DecodeWithin.{decode_within}
use Rattle.retiming.specs.LeadsLaws.{PositiveClosed}
use Rattle.retiming.proofs.LeadsLaws.{closed_debt_iff}
use Rattle.retiming.specs.Leads.{closed_debt}
use Rattle.retiming.specs.Rewrite.{rewritten}
use Rattle.retiming.specs.Debt.{debt_verdict}
use Rattle.retiming.proofs.DebtLaws.{LowestOwing, NoneOwes, search_ports, no_closed, closed_none, refuses_11_iff, refuses_12_iff, refuses_13_iff}
use Rattle.retiming.specs.PortWalks.{PortOwes}
use Rattle.retiming.proofs.PortWalks.{lowest-owing, none_owes}
use Rattle.retiming.specs.FileRewrite.{rewriter_verdict, IsAccepted, rewritten_file, rewrite_file}
use Rattle.retiming.proofs.OutLaws.{kept, short_iff, said_iff}
use Rattle.retiming.proofs.Past.{judged_is}

-- "no lent byte differs after it": of any file, and of any refusal
pub refused_keeps : (s out : List ℕ) (k p : ℕ) → (rewrite_file s out).answer ≡ Refused k p → (rewrite_file s out).out ≡ out
unfolding rewrite_file
refused_keeps s out k p e = kept (rewritten_file s) out (rewriter_verdict s) k p e

-- 14: just where the lent output is shorter than the rewritten file
pub refused_14_iff : (s out : List ℕ) → IsAccepted s → (rewrite_file s out).answer ≡ Refused 14 65535 ↔ (length out < length (rewritten_file s))
unfolding rewrite_file
refused_14_iff s out a = short_iff (rewritten_file s) out (rewriter_verdict s) a

-- ---- of a file that the reader passes: 11, 12 and 13

module _ (s : List ℕ) (b : Bytes s) (N : Net) (reads : decode s ≡ good N) (fine : reader_verdict N ≡ Fine) (out : List ℕ) where
  verdict_is : rewriter_verdict s ≡ debt_verdict N
  unfolding rewriter_verdict
  verdict_is = judged_is debt_verdict s N reads fine

  wf : WellFormed N
  wf = reader_fine N (decode_within s N b reads).fields fine

  refused_is : (k p : ℕ) → (k ≡ 14 → ⊥) → (rewrite_file s out).answer ≡ Refused k p ↔ debt_verdict N ≡ Refuses k p
  unfolding rewrite_file
  refused_is = said_iff (rewritten_file s) out (rewriter_verdict s) (debt_verdict N) verdict_is

  -- a closed walk has positive excess
  pub refused_11_iff : (rewrite_file s out).answer ≡ Refused 11 65535 ↔ PositiveClosed N
  refused_11_iff = simp (refused_is 11 65535 (λ k. omega arith)) (refuses_11_iff N wf.sourced)

  -- none has, and v is the lowest input port from which a walk has positive excess
  pub refused_12_iff : (v : ℕ) → (rewrite_file s out).answer ≡ Refused 12 v ↔ ((PositiveClosed N → ⊥) × LowestOf (size N) (PortOwes N) v)
  refused_12_iff v =
      let r = refused_is 12 v (λ k. omega arith) in
      let i = refuses_12_iff N wf.sourced v in (
        λ e. let (c, o) = i.0 (r.0 e) in (c, (lowest-owing N wf.sourced (closed_none N wf.sourced c) v).0 o),
        λ (c, o). r.1 (i.1 (c, (lowest-owing N wf.sourced (closed_none N wf.sourced c) v).1 o)),
      )

  -- 11 or 12: a closed walk, or a walk from an input port, has positive excess
  pub refused_debt_iff : (((rewrite_file s out).answer ≡ Refused 11 65535) ⊎ ((v : ℕ) × ((rewrite_file s out).answer ≡ Refused 12 v)))
      ↔ (PositiveClosed N ⊎ ((v : ℕ) × (v < size N) × PortOwes N v))
  refused_debt_iff = (
    ⊎_elim (λ e. inl (refused_11_iff.0 e)) (λ (v, e). let r = ((refused_12_iff v).0 e).1 in inr (v, r.inside, r.holds)),
    ⊎_elim (λ c. inl (refused_11_iff.1 c))
        (λ (v, h, w). ⊎_elim (λ t. inl (refused_11_iff.1 ((closed_debt_iff N wf.sourced).0 t))) (λ t. inr (from_port v h w t (search_ports N))) (true_or_false (closed_debt N))),
  )
    where
      from_port : (v : ℕ) → v < size N → PortOwes N v → closed_debt N ≡ false → ((u : ℕ) × LowestOwing N u) ⊎ NoneOwes N → (u : ℕ) × ((rewrite_file s out).answer ≡ Refused 12 u)
      from_port v h w t (inl (u, r)) = (u, (refused_12_iff u).1 (no_closed N wf.sourced t, (lowest-owing N wf.sourced t u).0 r))
      from_port v h w t (inr n) = absurd ((none_owes N wf.sourced t).0 n v h w)

  -- neither a closed walk nor one from an input port has, and the rewritten netlist has over 1,024 nodes
  pub refused_13_iff : (rewrite_file s out).answer ≡ Refused 13 65535
      ↔ ((PositiveClosed N → ⊥) × ((v : ℕ) → v < size N → PortOwes N v → ⊥) × (1024 < size (rewritten N)))
  refused_13_iff =
      let r = refused_is 13 65535 (λ k. omega arith) in
      let i = refuses_13_iff N wf.sourced in (
        λ e. let (c, n, g) = i.0 (r.0 e) in (c, (none_owes N wf.sourced (closed_none N wf.sourced c)).0 n, g),
        λ (c, n, g). r.1 (i.1 (c, (none_owes N wf.sourced (closed_none N wf.sourced c)).1 n, g)),
      )
