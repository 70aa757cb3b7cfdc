-- The state of a run always fits, where the input words do: 16 never comes up. Assumes nothing.
use Rattle.std.specs.Prelude.{◌≡◌, true, cond, List, [], length, eqb}
use Prim.Native.Nat.{ℕ, zero, suc}
use Rattle.std.proofs.Common.{pow_pos}
use Rattle.lists.proofs.BelowLaws.{and_left}
use Rattle.netlist.specs.Net.{Net, width_at}
use Rattle.behaviour.specs.Run.{state_at}
use Rattle.behaviour.specs.Runs.{Lent, input_widths, output_widths, state_widths, fitting, takes, refusal}
use Rattle.netlist.specs.Checks.{WellFormed}
use Rattle.behaviour.proofs.ClockFits.{PortsFit, ports_fit, holders_fit, reset_fits, state_stays_fit}

-- every input word fits, at every clock
abbrev pub InputsFit : Net → (ℕ → List ℕ) → Type 0
InputsFit N h = (t : ℕ) → PortsFit N (h t)

pub zeros_fit : (N : Net) → InputsFit N (λ t. [])
unfolding PortsFit
zeros_fit N t v h e = pow_pos (width_at N v)

-- an entry that is taken fits
pub taken-fits : (N : Net) (e : Lent) → takes N e ≡ true → PortsFit N e.words
unfolding takes
taken-fits N e t = ports_fit N e.words (and_left (fitting (input_widths N) e.words) (eqb (length e.room) (length (output_widths N))) t)

module _ (N : Net) (wf : WellFormed N) (h : ℕ → List ℕ) (fit : InputsFit N h) where
  pub state_fits_lem : (t : ℕ) → fitting (state_widths N) (state_at N h t) ≡ true
  unfolding state_at
  state_fits_lem zero = reset_fits N wf
  state_fits_lem (suc t) = state_stays_fit N wf (state_at N h t) (h t) (holders_fit N (state_at N h t) (state_fits_lem t)) (fit t)

  -- so only 15 can come up, and just where its condition holds
  pub refusal_is : (t : ℕ) (e : Lent) → refusal N (state_at N h t) e ≡ cond (takes N e) 0 15
  unfolding refusal
  refusal_is t e = rw (state_fits_lem t)
