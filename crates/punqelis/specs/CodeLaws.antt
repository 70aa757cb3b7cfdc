-- An accepted length is below 65,536, so a C host tells the two cases apart; and what a preview is to it, number by number. Assumes nothing.
use Rattle.std.specs.Prelude.{◌≡◌, List, ℕ, ◌≤◌, length}
use Rattle.std.proofs.Common.{sym, ap, ◌∙◌, arith}
use Rattle.netlist.specs.Scan.{Scan, refused, found, scan}
use Rattle.netlist.proofs.ScanLaws.{scan_found}
use Rattle.netlist.specs.Verdict.{reader_verdict, Verdict, Fine, Refuses}
use Rattle.netlist.specs.File.{net_in, decoded, judged, decode, file_verdict, answer, check_answer}
use Rattle.netlist.specs.declared.Answer.{Answer}
use Rattle.netlist.specs.declared.Answer.TheVariants.{Accepted, Refused}
use Rattle.retiming.specs.declared.Size.{Size}
use Rattle.retiming.specs.declared.Preview.{Preview}
use Rattle.retiming.specs.declared.Preview.TheVariants.{Fits}
use Rattle.retiming.specs.declared.Preview.TheVariants as preview
use Rattle.punqelis.specs.Code.{as_number, as_numbers}

-- the answer's length is at most so much
pub data LengthWithin (b : ℕ) : Answer → Type 0 where
  accepted_within : {n : ℕ} → n ≤ b → LengthWithin b (Accepted n)
  refused_within : {k p : ℕ} → LengthWithin b (Refused k p)

pub within : {b n : ℕ} → LengthWithin b (Accepted n) → n ≤ b
within (accepted_within h) = h

of_verdict : (v : Verdict) (n b : ℕ) → n ≤ b → LengthWithin b (answer v n)
of_verdict Fine n b h = accepted_within h
of_verdict (Refuses k p) n b h = refused_within

of_scan : (s : List ℕ) (w : Scan) → scan s ≡ w → LengthWithin 65535 (answer (judged (decoded s w)) (length s))
of_scan s (refused k p) e = refused_within
of_scan s (found ts ns) e = of_verdict (reader_verdict (net_in s ts ns)) (length s) 65535 (let h = (scan_found s ts ns e).short in omega arith)

pub check_within : (s : List ℕ) → LengthWithin 65535 (check_answer s)
unfolding check_answer file_verdict decode
check_within s = of_scan s (scan s) (λ i. scan s)

-- ---- the numbers of a preview, one by one

module _ {r : Preview} where
  pub fits-numbers : {z : Size} {a c g m k : ℕ} → r ≡ Fits z → a ≡ z.length → c ≡ z.clocked → g ≡ z.registers → m ≡ z.lead → k ≡ z.sources
      → record { answer = a; clocked_roms = c; registers = g; largest_lead = m; sources = k } ≡ as_numbers r
  fits-numbers q e f g h k =
      let x : _ ≡ as_numbers (Fits _) = λ i. record { answer = e i; clocked_roms = f i; registers = g i; largest_lead = h i; sources = k i } in
      x ∙ sym (ap as_numbers q)

  pub refused-numbers : {k p a : ℕ} → r ≡ preview.Refused k p → a ≡ as_number (Refused k p)
      → record { answer = a; clocked_roms = 0; registers = 0; largest_lead = 0; sources = 0 } ≡ as_numbers r
  refused-numbers q e = ap (λ (a : ℕ). record { answer = a; clocked_roms = 0; registers = 0; largest_lead = 0; sources = 0 }) e ∙ sym (ap as_numbers q)
