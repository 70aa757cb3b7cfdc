-- The numbers that refusals have: what holds of each check's number holds of the number that is said. Assumes nothing.
use mathlib.Core.List.{List, [], ◌∷◌}
use Prim.Native.Nat.{ℕ}
use Rattle.netlist.specs.Verdict.{Stage, Verdict, Fine, Refuses}

module _ (P : ℕ → Type 0) where
  -- a refusal's number is such a number
  abbrev pub Says : Verdict → Type 0
  Says Fine = Unit {0}
  Says (Refuses k p) = P k

  abbrev pub SaysEach : List Stage → Type 0
  SaysEach [] = Unit {0}
  SaysEach (s ∷ l) = P s.number × SaysEach l
