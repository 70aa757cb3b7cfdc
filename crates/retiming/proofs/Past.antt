-- Laws of what specs/Past.antt defines. Assumes nothing.
use Rattle.std.specs.Prelude.{◌≡◌, List, ℕ}
use Rattle.std.proofs.Math.Path.{refl, ap}
use Rattle.std.proofs.Common.{◌∙◌}
use Rattle.netlist.specs.Net.{Net}
use Rattle.netlist.specs.Verdict.{onward, reader_verdict, Verdict, Fine, Refuses}
use Rattle.netlist.proofs.VerdictLaws.{refuses_not}
use Rattle.netlist.specs.File.{Decoded, bad, good, decode, decoded_net, judged, file_verdict}
use Rattle.retiming.specs.Past.{judged_by, Past}

module _ (debts : Net → Verdict) (s : List ℕ) where
  pub past : judged_by debts s ≡ Fine → Past debts s
  unfolding file_verdict
  past h = by_fields (decode s) refl h
    where
      by_verdict : (N : Net) → decode s ≡ good N → (v : Verdict) → reader_verdict N ≡ v → onward v (debts N) ≡ Fine → Past debts s
      by_verdict N e Fine f d = record { net = N; file = record { reads = e; fine = f }; debtless = d }
      by_verdict N e (Refuses k p) f d = absurd (refuses_not d)

      by_fields : (d : Decoded) → decode s ≡ d → onward (judged d) (debts (decoded_net d)) ≡ Fine → Past debts s
      by_fields (bad k p) e f = absurd (refuses_not f)
      by_fields (good N) e f = by_verdict N e (reader_verdict N) refl f

  -- of a file that the reader passes, the mode's checks decide
  pub judged_is : (N : Net) → decode s ≡ good N → reader_verdict N ≡ Fine → judged_by debts s ≡ debts N
  unfolding file_verdict
  judged_is N reads fine = ap (λ (d : Decoded). onward (judged d) (debts (decoded_net d))) reads ∙ ap (λ (v : Verdict). onward v (debts N)) fine
