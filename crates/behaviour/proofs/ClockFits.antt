-- The state at reset fits. In one clock, from any state that fits and under input words that fit, the words of all nodes fit, and so do the next state and the
-- outputs. Assumes nothing.
use Rattle.std.specs.Prelude.{◌≡◌, refl, true, List}
use Rattle.std.proofs.lemmas.Bool.{false≢true}
use Prim.Native.Nat.{ℕ, zero, suc, ◌^◌, ◌<◌}
use Rattle.std.proofs.Common.{not-suc-le-zero, arith, lit<}
use Rattle.std.proofs.Math.ListN.{get_or}
use Rattle.netlist.specs.declared.Element.{Element}
use Rattle.netlist.specs.declared.Element.TheVariants.{Input, Output, Register, Async, Clocked, Gate}
use Rattle.netlist.specs.Net.{Table, Net, size, element_at, width_at, source, operands, within_clock, within_few, is_input, is_output, is_memory, holds_word, port_of, outputs_of, contents_at, Sourced, RankedIn}
use Rattle.netlist.specs.Checks.{ElementWidths, Fits, WellFormed}
use Rattle.behaviour.specs.Run.{gives_now, holds_first, holds_next, holder_of, contents_now, again, words, reset_state, next_state, run_outputs, run_state}
use Rattle.behaviour.specs.Runs.{input_widths, output_widths, state_widths, fitting}
use Rattle.behaviour.proofs.Settled.{clock_rank, ranked, settled}
use Rattle.behaviour.proofs.Fits.{fits_at, operate-fits, AllFit, word_fits, contents_fit}
use Rattle.behaviour.proofs.Fitting.{fitting-select, fitting_at}

-- what a node gives in a clock, and what it holds after it
module _ (ts : List Table) (M : List ℕ) (w : ℕ) (ws : ℕ → ℕ) (d : ℕ → ℕ) where
  pub now_fits : (i h : ℕ) (e : Element) → ElementWidths ts e w ws → Fits e w → (is_memory e ≡ true → AllFit M w) → (is_input e ≡ true → i < 2 ^ w) → (holds_word e ≡ true → h < 2 ^ w)
      → ((p : ℕ) → p < within_clock e → d p < 2 ^ ws p) → gives_now M e w ws i h d < 2 ^ w
  now_fits i h Input r f fit hi hh k = hi refl
  now_fits i h Output r f fit hi hh k = fits_at r (k 0 (lit< tt))
  now_fits i h (Register q) r f fit hi hh k = hh refl
  now_fits i h (Async m) r f fit hi hh k = word_fits M w (d 0) (fit refl)
  now_fits i h (Clocked m q) r f fit hi hh k = hh refl
  now_fits i h (Gate o) r f fit hi hh k = operate-fits w ws d o r f k

  pub next_fits : (e : Element) → ElementWidths ts e w ws → (is_memory e ≡ true → AllFit M w) → ((p : ℕ) → p < operands e → d p < 2 ^ ws p) → holds_word e ≡ true → holds_next M e d < 2 ^ w
  next_fits Input r fit k h = absurd (false≢true h)
  next_fits Output r fit k h = absurd (false≢true h)
  next_fits (Register q) r fit k h = fits_at r (k 0 (lit< tt))
  next_fits (Async m) r fit k h = absurd (false≢true h)
  next_fits (Clocked m q) r fit k h = word_fits M w (d 0) (fit refl)
  next_fits (Gate o) r fit k h = absurd (false≢true h)

-- the state at reset fits
first_fits : (e : Element) (w : ℕ) → Fits e w → holds_word e ≡ true → holds_first e < 2 ^ w
first_fits Input w f h = absurd (false≢true h)
first_fits Output w f h = absurd (false≢true h)
first_fits (Register r) w f h = f
first_fits (Async m) w f h = absurd (false≢true h)
first_fits (Clocked m r) w f h = f
first_fits (Gate o) w f h = absurd (false≢true h)

pub reset_fits : (N : Net) → WellFormed N → fitting (state_widths N) (reset_state N) ≡ true
unfolding state_widths reset_state
reset_fits N wf = fitting-select (λ v. holds_word (element_at N v)) (width_at N) (size N) (λ v. holds_first (element_at N v)) (λ v h e. first_fits (element_at N v) (width_at N v) (wf.fields.word_fits v h) e)

-- each input port's word fits
unfoldable pub PortsFit : Net → List ℕ → Type 0
PortsFit N ins = (v : ℕ) → v < size N → is_input (element_at N v) ≡ true → get_or ins (port_of N v) 0 < 2 ^ width_at N v

pub ports_fit : (N : Net) (ins : List ℕ) → fitting (input_widths N) ins ≡ true → PortsFit N ins
unfolding PortsFit port_of input_widths
ports_fit N ins t v h e = fitting_at (λ u. is_input (element_at N u)) (width_at N) (size N) ins t v h e

-- each register's and clocked ROM's word fits
unfoldable pub HoldersFit : Net → List ℕ → Type 0
HoldersFit N state = (v : ℕ) → v < size N → holds_word (element_at N v) ≡ true → get_or state (holder_of N v) 0 < 2 ^ width_at N v

pub holders_fit : (N : Net) (state : List ℕ) → fitting (state_widths N) state ≡ true → HoldersFit N state
unfolding HoldersFit holder_of state_widths
holders_fit N state t v h e = fitting_at (λ u. holds_word (element_at N u)) (width_at N) (size N) state t v h e

module _ (N : Net) (wf : WellFormed N) (state ins : List ℕ) (held : HoldersFit N state) (fits : PortsFit N ins) where
  -- every node of a rank below k
  level : (k v : ℕ) → v < size N → clock_rank N v < k → get_or (words N state ins) v 0 < 2 ^ width_at N v
  unfolding PortsFit HoldersFit again contents_now Sourced RankedIn
  level zero v h l = absurd (not-suc-le-zero l)
  level (suc k) v h l =
      rw (settled N wf state ins v h)
      (now_fits N.tables (contents_at N v) (width_at N v) (λ p. width_at N (source N v p)) (λ p. get_or (words N state ins) (source N v p) 0) (get_or ins (port_of N v) 0) (get_or state (holder_of N v) 0)
      (element_at N v) (wf.widths v h) (wf.fields.word_fits v h) (contents_fit N wf v h) (fits v h) (held v h)
      (λ p q. level k (source N v p) (wf.sourced v p h (omega (arith, within_few (element_at N v)))) (omega (arith, ranked N wf v p h q))))

  pub clock-fits : (v : ℕ) → v < size N → get_or (words N state ins) v 0 < 2 ^ width_at N v
  clock-fits v h = level (suc (clock_rank N v)) v h (omega arith)

  pub outputs_fit : fitting (output_widths N) (run_outputs N state ins) ≡ true
  unfolding output_widths run_outputs outputs_of
  outputs_fit = fitting-select (λ v. is_output (element_at N v)) (width_at N) (size N) (λ v. get_or (words N state ins) v 0) (λ v h e. clock-fits v h)

  pub state_stays_fit : fitting (state_widths N) (run_state N state ins) ≡ true
  unfolding state_widths run_state next_state contents_now Sourced
  state_stays_fit =
      fitting-select (λ v. holds_word (element_at N v)) (width_at N) (size N) (λ v. holds_next (contents_at N v) (element_at N v) (λ p. get_or (words N state ins) (source N v p) 0)) (λ v h e.
      next_fits N.tables (contents_at N v) (width_at N v) (λ p. width_at N (source N v p)) (λ p. get_or (words N state ins) (source N v p) 0) (element_at N v) (wf.widths v h) (contents_fit N wf v h)
      (λ p q. clock-fits (source N v p) (wf.sourced v p h q)) e)
