-- What holds of a mode where its 11 and 12 do not apply: its timing suits the netlist, and its new netlist is the one over that timing. Assumes nothing.
use Rattle.std.specs.Prelude.{◌≡◌, true, ℕ, ◌≤◌, ◌<◌, ltb}
use Rattle.netlist.specs.Net.{Net, size}
use Rattle.retiming.specs.Rewrite.{Timing}
use Rattle.retiming.specs.Candidate.{Retimes}

-- a timing that code can go by: it serves the netlist, its numbers are small, and which nodes stay is told by their leads
pub record Suits (N : Net) (f : Timing) : Type 0 where
  pub retimes : Retimes N f
  pub low : f.origin ≤ 1026
  pub few : (v : ℕ) → v < size N → f.lead v ≤ 2050
  pub keeps_all : f.origin ≡ 0 → (v : ℕ) → f.keeps v ≡ true
  pub keeps_late : 0 < f.origin → (v : ℕ) → f.keeps v ≡ ltb 0 (f.lead v)
