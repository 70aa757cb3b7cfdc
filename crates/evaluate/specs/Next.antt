-- The word that a node holds after the clock, and its word after reset. Assumes nothing.
use Rattle.std.specs.Prelude.{◌≡◌, refl, true, List, ℕ, ◌^◌, ◌<◌, get_or}
use Rattle.std.proofs.Common.{sym, ap, lit<}
use Rattle.std.proofs.lemmas.Bool.{false≢true}
use Rattle.lists.specs.Lists.{select}
use Rattle.netlist.specs.declared.Element.{Element}
use Rattle.netlist.specs.declared.Element.TheVariants.{Input, Output, Register, Async, Clocked, Gate}
use Rattle.netlist.specs.Net.{Net, size, element_at, width_at, source, operands, holds_word, contents_at}
use Rattle.circuit.specs.Code.{number_or}
use Rattle.behaviour.specs.Run.{holds_next, holds_first, next_state}
use Rattle.behaviour.proofs.Run.{contents_now_lem}

abbrev pub next_word : Net → List ℕ → ℕ → ℕ
next_word N ws v = holds_next (contents_at N v) (element_at N v) (λ p. get_or ws (source N v p) 0)

-- those of all that hold one are the next state, whatever the state was: contents stay
pub next_state_lem : (N : Net) (state ws : List ℕ) → select (λ v. holds_word (element_at N v)) (next_word N ws) (size N) ≡ next_state N state ws
unfolding next_state
next_state_lem N state ws i = select (λ v. holds_word (element_at N v)) (λ v. holds_next (sym (contents_now_lem N state v) i) (element_at N v) (λ p. get_or ws (source N v p) 0)) (size N)

-- every word fits its node's width
abbrev pub WordsFit : Net → List ℕ → Type 0
WordsFit N ws = (v : ℕ) → v < size N → get_or ws v 0 < 2 ^ width_at N v

-- what holds a word has a source
pub holder_reads : (e : Element) → holds_word e ≡ true → 0 < operands e
holder_reads Input h = absurd (false≢true h)
holder_reads Output h = absurd (false≢true h)
holder_reads (Register r) h = lit< tt
holder_reads (Async m) h = absurd (false≢true h)
holder_reads (Clocked m r) h = lit< tt
holder_reads (Gate o) h = absurd (false≢true h)

-- and its number is its reset word
pub number_first : (e : Element) {r : ℕ} → holds_word e ≡ true → r ≡ number_or r e → r ≡ holds_first e
number_first Input h q = absurd (false≢true h)
number_first Output h q = absurd (false≢true h)
number_first (Register r) h q = q
number_first (Async m) h q = absurd (false≢true h)
number_first (Clocked m r) h q = q
number_first (Gate o) h q = absurd (false≢true h)

-- what is held next depends on the source's word alone
pub next_same : (M : List ℕ) (d d' : ℕ → ℕ) (e : Element) → (holds_word e ≡ true → d 0 ≡ d' 0) → holds_next M e d ≡ holds_next M e d'
next_same M d d' Input h = refl
next_same M d d' Output h = refl
next_same M d d' (Register r) h = h refl
next_same M d d' (Async m) h = refl
next_same M d d' (Clocked m r) h = ap (λ (a : ℕ). get_or M a 0) (h refl)
next_same M d d' (Gate o) h = refl
