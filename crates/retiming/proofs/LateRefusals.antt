-- The late start's own refusals of a file that the reader passes, each if and only if, with its place; and no refusal changes the lent output. Assumes nothing.
use Rattle.std.specs.Prelude.{◌≡◌, ◌↔◌, List, ℕ, ◌<◌, length}
use Rattle.std.proofs.Common.{arith}
use Rattle.netlist.specs.Net.{Net, size}
use Rattle.netlist.specs.Checks.{WellFormed}
use Rattle.netlist.proofs.VerdictLaws.{reader_fine}
use Rattle.netlist.specs.Verdict.{reader_verdict, Fine, Refuses}
use Rattle.netlist.specs.File.{good, decode}
use Rattle.netlist.specs.declared.Answer.TheVariants.{Refused}
use Rattle.codec.specs.Bytes.{Bytes}
use Rattle.codec.proofs.DecodeWithin.{decode_within}
use Rattle.retiming.proofs.OutLaws.{kept, short_iff, said_iff}
use Rattle.retiming.proofs.Past.{judged_is}
use Rattle.retiming.specs.LateRewrite.{late_started}
use Rattle.retiming.specs.LateDebt.{late_verdict}
use Rattle.retiming.specs.LateDebtLaws.{LateClosed, LowestLate, NoneLate}
use Rattle.retiming.proofs.LateDebtLaws.{late_11_iff, late_12_iff, late_13_iff}
use Rattle.retiming.specs.LateFile.{late_file_verdict, IsLateAccepted, late_file, late_rewrite}

-- "no lent byte differs after it": of any file, and of any refusal
pub late-refused_keeps : (s out : List ℕ) (k p : ℕ) → (late_rewrite s out).answer ≡ Refused k p → (late_rewrite s out).out ≡ out
unfolding late_rewrite
late-refused_keeps s out k p e = kept (late_file s) out (late_file_verdict s) k p e

-- 14: just where the lent output is shorter than the late-started file
pub late-refused_14_iff : (s out : List ℕ) → IsLateAccepted s → (late_rewrite s out).answer ≡ Refused 14 65535 ↔ (length out < length (late_file s))
unfolding late_rewrite
late-refused_14_iff s out a = short_iff (late_file s) out (late_file_verdict s) a

-- ---- of a file that the reader passes: 11, 12 and 13

module _ (s : List ℕ) (b : Bytes s) (N : Net) (reads : decode s ≡ good N) (fine : reader_verdict N ≡ Fine) (out : List ℕ) where
  verdict_is : late_file_verdict s ≡ late_verdict N
  unfolding late_file_verdict
  verdict_is = judged_is late_verdict s N reads fine

  wf : WellFormed N
  wf = reader_fine N (decode_within s N b reads).fields fine

  refused_is : (k p : ℕ) → (k ≡ 14 → ⊥) → (late_rewrite s out).answer ≡ Refused k p ↔ late_verdict N ≡ Refuses k p
  unfolding late_rewrite
  refused_is = said_iff (late_file s) out (late_file_verdict s) (late_verdict N) verdict_is

  -- a closed walk that can reach an output has positive excess
  pub late-refused_11_iff : (late_rewrite s out).answer ≡ Refused 11 65535 ↔ LateClosed N
  late-refused_11_iff = simp (refused_is 11 65535 (λ k. omega arith)) (late_11_iff N wf.sourced)

  -- none has, and v is the lowest input port from which a walk to an output port has
  pub late-refused_12_iff : (v : ℕ) → (late_rewrite s out).answer ≡ Refused 12 v ↔ ((LateClosed N → ⊥) × LowestLate N v)
  late-refused_12_iff v = simp (refused_is 12 v (λ k. omega arith)) (late_12_iff N wf.sourced v)

  -- neither, and the late-started netlist has over 1,024 nodes
  pub late-refused_13_iff : (late_rewrite s out).answer ≡ Refused 13 65535 ↔ ((LateClosed N → ⊥) × NoneLate N × (1024 < size (late_started N)))
  late-refused_13_iff = simp (refused_is 13 65535 (λ k. omega arith)) (late_13_iff N wf.sourced)
