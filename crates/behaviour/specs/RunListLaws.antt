-- A list of runs in one call, as the code makes it: over the file's netlist, on words, clock by clock. Assumes nothing.
use mathlib.Core.List.{List}
use Prim.Native.Nat.{ℕ, zero, suc}
use Rattle.netlist.specs.Net.{Net}
use Rattle.behaviour.specs.Run.{run_state}
use Rattle.behaviour.specs.Runs.{input_widths}
use Rattle.behaviour.specs.Service.{words_in}
use Rattle.behaviour.specs.RunList.{row_bytes, byte_row}

-- the state after t clocks, under the input words `ins t` at clock t
unfoldable pub states_from : Net → List ℕ → (ℕ → List ℕ) → ℕ → List ℕ
states_from N st ins zero = st
states_from N st ins (suc t) = run_state N (states_from N st ins t) (ins t)

-- the input words of the i-th run
abbrev pub row_words : Net → List ℕ → ℕ → List ℕ
row_words N ins i = words_in (byte_row (row_bytes (input_widths N)) ins i)
