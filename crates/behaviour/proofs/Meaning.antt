-- The run from reset is the one behaviour of a netlist that has no loop within the clock. Assumes nothing.
use Rattle.std.specs.Prelude.{◌≡◌, ℕ, ◌<◌, List, get_or}
use Rattle.netlist.specs.Net.{Net, size, in_clock, Behaves, Sourced}
use Rattle.netlist.specs.Checks.{WellFormed}
use Rattle.behaviour.specs.Run.{run_word}
use Rattle.behaviour.proofs.Unique.{unique}
use Rattle.behaviour.proofs.Exists.{run_behaves}
use Rattle.netlist.specs.Rank.{Settles, rounds}
use Rattle.netlist.proofs.Rank.{rounds_ranked, rounds_small, loopless_settles}

-- a netlist that passes the checks has none
pub settles : (N : Net) → WellFormed N → Settles N
settles N wf = loopless_settles in_clock N wf.sourced wf.no_loop

module _ (N : Net) (sourced : Sourced N) (settles : Settles N) where
  pub the_run_behaves : (ins : ℕ → List ℕ) → Behaves N (λ t port. get_or (ins t) port 0) (run_word N ins)
  the_run_behaves ins = run_behaves N (rounds in_clock N) sourced (rounds_ranked in_clock N sourced settles) (rounds_small in_clock N sourced settles) ins

  pub one_behaviour : (ins B C : ℕ → ℕ → ℕ) → Behaves N ins B → Behaves N ins C → (t v : ℕ) → v < size N → B t v ≡ C t v
  one_behaviour ins B C hB hC t v h = unique N (rounds in_clock N) sourced (rounds_ranked in_clock N sourced settles) ins B C hB hC t v h
