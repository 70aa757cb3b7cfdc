-- The input words of the clocks so far, as a list of runs makes them: a run that is taken puts its words at the clock and goes on to the next; a refused run is no
-- clock. Assumes nothing.
use Rattle.std.specs.Prelude.{◌≡◌, refl, Bool, true, false, cond, List, ℕ, zero, suc, ◌<◌, eqb}
use Rattle.std.proofs.Common.{sym, ⊎_elim, arith}
use Rattle.std.proofs.Math.Path.{ap₂}
use Rattle.lists.proofs.BelowLaws.{true_or_false, eqb-true, eqb_self}
use Rattle.netlist.specs.Net.{Net}
use Rattle.behaviour.specs.Run.{run_state, run_outputs, state_at, outputs_at}
use Rattle.behaviour.specs.Runs.{Lent, takes, after}
use Rattle.behaviour.proofs.States.{InputsFit, taken-fits}

-- a stream with another word list at clock t
unfoldable pub at_clock : (ℕ → List ℕ) → ℕ → List ℕ → ℕ → List ℕ
at_clock h t d s = cond (eqb s t) d (h s)

at_clock_same : (h : ℕ → List ℕ) (t : ℕ) (d : List ℕ) → at_clock h t d t ≡ d
unfolding at_clock
at_clock_same h t d = rw (eqb_self t)

at_clock_before : (h : ℕ → List ℕ) (t : ℕ) (d : List ℕ) (s : ℕ) → s < t → at_clock h t d s ≡ h s
unfolding at_clock
at_clock_before h t d s l = ⊎_elim (λ e. let k : s ≡ t = eqb-true e in absurd (omega arith)) (λ e. rw e) (true_or_false (eqb s t))

-- the state depends on the earlier clocks alone
state_at_earlier : (N : Net) (h k : ℕ → List ℕ) (t : ℕ) → ((s : ℕ) → s < t → h s ≡ k s) → state_at N h t ≡ state_at N k t
unfolding state_at
state_at_earlier N h k zero e = refl
state_at_earlier N h k (suc t) e = ap₂ (run_state N) (state_at_earlier N h k t (λ s l. e s (omega arith))) (e t (omega arith))

module _ (N : Net) (h : ℕ → List ℕ) (t : ℕ) (d : List ℕ) where
  state_at_lem : state_at N (at_clock h t d) t ≡ state_at N h t
  state_at_lem = state_at_earlier N (at_clock h t d) h t (at_clock_before h t d)

  pub outputs_now_lem : run_outputs N (state_at N h t) d ≡ outputs_at N (at_clock h t d) t
  unfolding outputs_at
  outputs_now_lem = ap₂ (run_outputs N) (sym state_at_lem) (sym (at_clock_same h t d))

  state_next : run_state N (state_at N h t) d ≡ state_at N (at_clock h t d) (suc t)
  unfolding state_at
  state_next = ap₂ (run_state N) (sym state_at_lem) (sym (at_clock_same h t d))

-- the history and the clock after a run that was taken, or was not
unfoldable pub history : Bool → (ℕ → List ℕ) → ℕ → Lent → ℕ → List ℕ
history true h t e = at_clock h t e.words
history false h t e = h

unfoldable pub clock : Bool → ℕ → ℕ
clock true t = suc t
clock false t = t

pub after_is : (N : Net) (b : Bool) (h : ℕ → List ℕ) (t : ℕ) (e : Lent) → after (cond b 0 15) N (state_at N h t) e ≡ state_at N (history b h t e) (clock b t)
unfolding after history clock
after_is N true h t e = state_next N h t e.words
after_is N false h t e = refl

pub history-fits : (N : Net) (b : Bool) (h : ℕ → List ℕ) (t : ℕ) (e : Lent) → takes N e ≡ b → InputsFit N h → InputsFit N (history b h t e)
unfolding history at_clock
history-fits N true h t e k fit s = ⊎_elim (λ a. rw a (taken-fits N e k)) (λ a. rw a (fit s)) (true_or_false (eqb s t))
history-fits N false h t e k fit s = fit s
