-- DEMAND 2, whole, of every file that the reader passes. Start it from reset and give it any list of runs: there is one way in which its elements can behave under the
-- words of the runs that were taken, and what the runs show is that, clock by clock; a refused run is no clock. And the rewriter refuses it with 11 or 12 just where
-- a closed walk, or a walk from an input port, leaves more asynchronous ROMs than it enters registers. This rules out a run that is idle after its first clock, and a
-- rewriter that says 11 or 12 to everything, or looks at loops alone.
-- `s` is the file and `N` its netlist; `st` is the state lent to the reset service, of any content; `es` is the list of runs. Assumes nothing.
use Rattle.std.specs.Prelude.{◌≡◌, ◌↔◌, ◌⊎◌, List, ℕ, ◌<◌, length, get_or}
use Rattle.netlist.specs.Net.{Net, size, Behaves}
use Rattle.netlist.specs.Checks.{WellFormed}
use Rattle.netlist.specs.Verdict.{reader_verdict, Fine}
use Rattle.netlist.proofs.VerdictLaws.{reader_fine}
use Rattle.netlist.specs.File.{good, decode}
use Rattle.netlist.specs.declared.Answer.TheVariants.{Refused}
use Rattle.codec.specs.Bytes.{Bytes}
use Rattle.codec.proofs.DecodeWithin.{decode_within}
use Rattle.behaviour.specs.Run.{run_word}
use Rattle.behaviour.proofs.Meaning.{settles, the_run_behaves}
use Rattle.behaviour.specs.Service.{reset_file, Entry, runs_file}
use Rattle.behaviour.specs.Entries.{state_bytes}
use Rattle.behaviour.specs.RunsBehave.{inputs_at, shown_from}
use Rattle.behaviour.proofs.RunsBehave.{runs_behave}
use Rattle.retiming.specs.LeadsLaws.{PositiveClosed}
use Rattle.retiming.specs.PortWalks.{PortOwes}
use Rattle.retiming.specs.FileRewrite.{rewrite_file}
use Rattle.retiming.proofs.FileRefusals.{refused_debt_iff}

pub demand_2 : (s : List ℕ) → Bytes s → (N : Net) → decode s ≡ good N → reader_verdict N ≡ Fine
    -- there is a behaviour under the words of the runs that were taken, and any is what the runs show
    → ((st : List ℕ) → length st ≡ state_bytes s → (es : List Entry)
    → ((B : ℕ → ℕ → ℕ) × Behaves N (λ t port. get_or (inputs_at N es t) port 0) B)
    × ((B : ℕ → ℕ → ℕ) → Behaves N (λ t port. get_or (inputs_at N es t) port 0) B → runs_file s (reset_file s st).state es ≡ shown_from N B 0 es))
    -- 11 or 12, whatever the output: just where a closed walk, or one from an input port, has positive excess
    × ((out : List ℕ)
    → (((rewrite_file s out).answer ≡ Refused 11 65535) ⊎ ((v : ℕ) × ((rewrite_file s out).answer ≡ Refused 12 v)))
    ↔ (PositiveClosed N ⊎ ((v : ℕ) × (v < size N) × PortOwes N v)))
demand_2 s b N reads fine = (
  λ st h es. ((run_word N (inputs_at N es), the_run_behaves N wf.sourced (settles N wf) (inputs_at N es)), runs_behave s N wf (record { reads = reads; fine = fine }) st h es),
  refused_debt_iff s b N reads fine,
)
  where
    wf : WellFormed N
    wf = reader_fine N (decode_within s N b reads).fields fine
