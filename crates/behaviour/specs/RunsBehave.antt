-- DEMAND 2, of the run. Start a file from reset and give it any list of runs. A run whose words do not fit is refused by 15, and is no clock; the others are the clocks, one
-- after the other, and each gives at the output ports the words that the elements say. This rules out a run that is right at its first clock and idle after it, a
-- register that takes another's new word, and a refused run that moves the state. Assumes nothing.
use Rattle.std.specs.Prelude.{length}
use Rattle.std.proofs.Math.Bool.{cond}
use mathlib.Core.List.{List, [], ◌∷◌}
use Prim.Native.Nat.{ℕ, ◌+◌}
use Rattle.std.proofs.Math.ListN.{get_or}
use Rattle.lists.specs.Lists.{one}
use Rattle.netlist.specs.Net.{Net, outputs_of}
use Rattle.netlist.specs.File.{answer}
use Rattle.netlist.specs.Verdict.{Fine, Refuses}
use Rattle.behaviour.specs.Service.{bytes_of, words_in, Entry, Shown}
use Rattle.behaviour.specs.Lending.{takes_entry}

-- the input words of the clocks: those of the entries that fit, in order
unfoldable pub taken : Net → List Entry → List (List ℕ)
taken N [] = []
taken N (e ∷ es) = cond (takes_entry N e) (words_in e.inputs ∷ taken N es) (taken N es)

unfoldable pub inputs_at : Net → List Entry → ℕ → List ℕ
inputs_at N es t = get_or (taken N es) t []

-- what one run shows where the nodes have these words: those of the output ports; or 15, and its output list as it was
abbrev pub shown_at : Net → (ℕ → ℕ) → Entry → Shown
shown_at N w e = record {
  answer = answer (cond (takes_entry N e) Fine (Refuses 15 65535)) (length e.outputs);
  outputs = cond (takes_entry N e) (bytes_of (outputs_of N w)) e.outputs;
}

-- what a list of runs shows from clock t on, where node v has the word B t v at clock t
unfoldable pub shown_from : Net → (ℕ → ℕ → ℕ) → ℕ → List Entry → List Shown
shown_from N B t [] = []
shown_from N B t (e ∷ es) = shown_at N (B t) e ∷ shown_from N B (t + one (takes_entry N e)) es
