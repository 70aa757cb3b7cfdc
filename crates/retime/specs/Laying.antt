-- The new netlist of a file in either mode, laid as a circuit: 13, and what is told of the leads. Assumes nothing.
use Rattle.std.specs.Prelude.{◌≡◌, List, [], ◌∷◌, ℕ, Result, Ok}
use Rattle.netlist.specs.Net.{Net}
use Rattle.netlist.specs.Verdict.{of_whole, verdict, Verdict}
use Rattle.netlist.specs.File.{decode, decoded_net, answer}
use Rattle.netlist.specs.Refusal.{answered}
use Rattle.netlist.specs.declared.Answer.{Answer}
use Rattle.netlist.specs.declared.Refusal.{Refusal}
use Rattle.circuit.specs.Circuit.{net_of, Circuit}
use Rattle.behaviour.specs.Run.{zero_word}
use Rattle.retiming.specs.declared.Mode.{Mode}
use Rattle.retiming.specs.declared.Mode.TheVariants.{Plain, Late}
use Rattle.retiming.specs.Gates.{gated_with}
use Rattle.retiming.specs.Debt.{grown}
use Rattle.retiming.specs.Preview.{largest_lead_of}
use Rattle.retiming.specs.Modes.{mode_timing, mode_trimmed, mode_net, mode_file_verdict}

-- 13
unfoldable pub grown_verdict : Mode → Net → Verdict
grown_verdict mode N = verdict (of_whole 13 (λ v. grown (mode_net mode N)) ∷ [])

-- the new netlist is the one over the mode's timing, without the tables that the mode leaves out
abbrev pub NewIs : Mode → Net → Type 0
NewIs mode N = mode_trimmed mode (gated_with N (mode_timing mode N) (zero_word N)) ≡ mode_net mode N

-- l is a circuit of the netlist, over the tables of the file s
abbrev pub IsCircuit : List ℕ → List ℕ → Net → Type 0
IsCircuit s l M = (net_of s l ≡ M) × Circuit s l

-- ---- what is answered, and what is then laid

-- the largest lead, which the preview tells; that is of the plain mode
abbrev pub mode_lead : Mode → Net → ℕ
mode_lead Plain N = largest_lead_of N
mode_lead Late N = 0

-- by the verdict: the lead, or the refusal's number and place
abbrev pub retimed_by : Mode → Verdict → Net → Answer
retimed_by mode v N = answer v (mode_lead mode N)

-- the answer is as told; and where it is no refusal, l is the new netlist's circuit
abbrev pub Lays : List ℕ → List ℕ → Mode → Net → Answer → Result ℕ Refusal → Type 0
Lays s l mode N told r = (answered r ≡ told) × ((m : ℕ) → r ≡ Ok m → IsCircuit s l (mode_net mode N))

abbrev pub LaysFile : Mode → List ℕ → List ℕ → Result ℕ Refusal → Type 0
LaysFile mode s l r = Lays s l mode (decoded_net (decode s)) (retimed_by mode (mode_file_verdict mode s) (decoded_net (decode s))) r
