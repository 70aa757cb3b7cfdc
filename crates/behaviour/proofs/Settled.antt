-- One clock of a netlist that passes the reader: along what a node reads within the clock its rank falls, so the words settle, and in one way only. Assumes nothing.
use Rattle.std.specs.Prelude.{◌≡◌, List, ℕ, ◌<◌, get_or}
use Rattle.netlist.specs.Net.{Net, size, in_clock, Ranked}
use Rattle.netlist.specs.Checks.{WellFormed}
use Rattle.netlist.specs.Rank.{rounds}
use Rattle.netlist.proofs.Rank.{rounds_ranked, rounds_small}
use Rattle.behaviour.specs.Run.{again, words}
use Rattle.behaviour.proofs.Meaning.{settles}
use Rattle.behaviour.proofs.Exists.{words_settled, words_only}

abbrev pub clock_rank : Net → ℕ → ℕ
clock_rank N = rounds in_clock N

module _ (N : Net) (wf : WellFormed N) where
  pub ranked : Ranked N (clock_rank N)
  ranked = rounds_ranked in_clock N wf.sourced (settles N wf)

  small : (v : ℕ) → v < size N → clock_rank N v < size N
  small = rounds_small in_clock N wf.sourced (settles N wf)

  pub settled : (state ins : List ℕ) (v : ℕ) → v < size N → get_or (words N state ins) v 0 ≡ again N state ins (words N state ins) v
  settled = words_settled N (clock_rank N) wf.sourced ranked small

  -- words that one more round leaves as they are, are the words of the clock
  pub settled_once : (state ins ws : List ℕ) → ((v : ℕ) → v < size N → get_or ws v 0 ≡ again N state ins ws v) → (v : ℕ) → v < size N → get_or ws v 0 ≡ get_or (words N state ins) v 0
  settled_once = words_only N (clock_rank N) wf.sourced ranked small
