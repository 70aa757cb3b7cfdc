-- "Counted from the reader, its j-th reset word (from 0) is what x would receive at clock j + lead(x) of the old netlist": in any behaviour, whatever the inputs.
-- Assumes nothing.
use Rattle.std.specs.Prelude.{◌≡◌, false, ℕ, ◌+◌, ◌-◌, ◌<◌}
use Rattle.std.proofs.Math.Path.{refl}
use Rattle.std.proofs.Common.{ap, ◌∙◌, zero-le, arith, le-ltb}
use mathlib.Core.List.{[]}
use Rattle.std.proofs.Math.ListN.{get_or}
use Rattle.netlist.specs.Net.{Net, size, in_clock, element_at, source, operands, is_register, Behaves, Sourced}
use Rattle.netlist.specs.Checks.{WellFormed}
use Rattle.netlist.specs.Rank.{rounds}
use Rattle.netlist.proofs.Rank.{rounds_ranked}
use Rattle.behaviour.specs.Run.{zero_word}
use Rattle.retiming.specs.Leads.{lead, closed_debt, port_debt}
use Rattle.retiming.specs.Rewrite.{word_from, old_on, registers_on, reset_word, timing, timing_by}
use Rattle.retiming.proofs.Wires.{independent}
use Rattle.retiming.specs.Candidate.{Retimes}
use Rattle.retiming.proofs.Retimed.{retimes, zero_behaves}

from_zero : (B : ℕ → ℕ → ℕ) (n v : ℕ) → word_from 0 B n v ≡ B n v
unfolding word_from
from_zero B n v = let z : n - 0 ≡ n = omega arith in rw (le-ltb n 0 zero-le) (ap (λ (t : ℕ). B t v) z)

module _ (N : Net) (wf : WellFormed N) (debtless : closed_debt N ≡ false) (portless : port_debt N ≡ false) (ins B : ℕ → ℕ → ℕ) (behaves : Behaves N ins B) where
  pub reset_word_received : (x p j : ℕ) → x < size N → is_register (element_at N x) ≡ false → p < operands (element_at N x) → j < registers_on N (timing N) (zero_word N) x p
      → reset_word N (timing N) (zero_word N) x p j ≡ B (j + lead N x) (source N x p)
  unfolding reset_word registers_on old_on timing timing_by lead Sourced
  reset_word_received x p j h o q l =
      let r : Retimes N (timing N) = retimes N wf debtless portless in
      from_zero (zero_word N) (j + lead N x) (source N x p)
      ∙ independent N (rounds in_clock N) (timing N) r.sourced (rounds_ranked in_clock N r.sourced r.settles) r.serves r.inputs
      (λ t port. get_or [] port 0) ins (zero_word N) B (zero_behaves N wf) behaves (source N x p) (wf.sourced x p h q) refl (j + lead N x) (omega arith)
