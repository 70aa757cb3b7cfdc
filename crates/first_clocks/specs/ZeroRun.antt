-- The run from reset with all inputs 0, clock by clock in a list of words: what is loaded, what evaluating makes of it, what is held next. Assumes nothing.
use Rattle.std.specs.Prelude.{◌≡◌, Bool, true, false, ◌||◌, length, set}
use Rattle.std.proofs.Math.Path.{refl, sym, ap}
use Rattle.std.proofs.Common.{subst, ◌∙◌, ⊎_elim, true≢false, get_or-set_same, get_or-set_other, pow_pos}
use Rattle.std.proofs.lemmas.Bool.{false≢true}
use mathlib.Core.List.{List, []}
use Prim.Native.Nat.{ℕ, suc, ◌+◌, ◌^◌, ◌<◌}
use native.Mathlib.Omega.{arith}
use Rattle.std.proofs.Math.ListN.{get_or}
use Rattle.lists.proofs.BelowLaws.{lt-suc_split}
use Rattle.lists.proofs.ListsLaws.{get_or_select}
use Rattle.netlist.specs.declared.Element.{Element}
use Rattle.netlist.specs.declared.Element.TheVariants.{Input, Output, Register, Async, Clocked, Gate}
use Rattle.netlist.specs.Net.{Net, size, element_at, width_at, source, gives, contents_at, is_input, holds_word, port_of, Behaves, Sourced}
use Rattle.netlist.specs.Checks.{WellFormed}
use Rattle.circuit.specs.Code.{number_or}
use Rattle.behaviour.specs.Run.{gives_now, holds_next, holds_first, holder_of, contents_now, again, words, state_at, run_word, zero_word}
use Rattle.behaviour.proofs.Run.{contents_now_lem}
use Rattle.behaviour.proofs.Meaning.{settles, the_run_behaves}
use Rattle.behaviour.proofs.Settled.{settled, settled_once}
use Rattle.behaviour.proofs.Fits.{words_fit_lem}
use Rattle.evaluate.specs.Rows.{row_test, row_of, RowFits}
use Rattle.evaluate.specs.Clock.{clock_words, Evaluated}
use Rattle.evaluate.specs.declared.Row.TheVariants.{Inputs, State}
use Rattle.evaluate.specs.Next.{next_word, WordsFit, holder_reads, number_first, next_same}
use Rattle.first_clocks.specs.Wanted.{WordsAt}

-- input ports, registers and clocked ROMs have their words of clock t
abbrev pub LoadedAt : Net → ℕ → List ℕ → ℕ → Type 0
LoadedAt N t words v = (is_input (element_at N v) || holds_word (element_at N v)) ≡ true → get_or words v 0 ≡ zero_word N t v

-- a word with which a node begins clock t
abbrev pub Begins : Net → ℕ → ℕ → ℕ → Type 0
Begins N t v x = (is_input (element_at N v) || holds_word (element_at N v)) ≡ true → x ≡ zero_word N t v

pub record Loads (N : Net) (t : ℕ) (words : List ℕ) : Type 0 where
  pub at : (v : ℕ) → v < size N → LoadedAt N t words v

input_loaded : (e : Element) → is_input e ≡ true → (is_input e || holds_word e) ≡ true
input_loaded e t = ap (λ (b : Bool). b || holds_word e) t

holder_loaded : (e : Element) → holds_word e ≡ true → (is_input e || holds_word e) ≡ true
holder_loaded Input t = refl
holder_loaded Output t = absurd (false≢true t)
holder_loaded (Register r) t = refl
holder_loaded (Async m) t = absurd (false≢true t)
holder_loaded (Clocked m r) t = refl
holder_loaded (Gate o) t = absurd (false≢true t)

-- a loaded element gives its own word, the others what they read
now_alike : (M : List ℕ) (w : ℕ) (ws : ℕ → ℕ) (i i' h h' : ℕ) (d : ℕ → ℕ) (e : Element) → (is_input e ≡ true → i ≡ i') → (holds_word e ≡ true → h ≡ h') → gives_now M e w ws i h d ≡ gives_now M e w ws i' h' d
now_alike M w ws i i' h h' d Input a b = a refl
now_alike M w ws i i' h h' d Output a b = refl
now_alike M w ws i i' h h' d (Register r) a b = b refl
now_alike M w ws i i' h h' d (Async m) a b = refl
now_alike M w ws i i' h h' d (Clocked m r) a b = b refl
now_alike M w ws i i' h h' d (Gate o) a b = refl

now_input : (M : List ℕ) (w : ℕ) (ws : ℕ → ℕ) (i h : ℕ) (d : ℕ → ℕ) (e : Element) → is_input e ≡ true → gives_now M e w ws i h d ≡ i
now_input M w ws i h d Input t = refl
now_input M w ws i h d Output t = absurd (false≢true t)
now_input M w ws i h d (Register r) t = absurd (false≢true t)
now_input M w ws i h d (Async m) t = absurd (false≢true t)
now_input M w ws i h d (Clocked m r) t = absurd (false≢true t)
now_input M w ws i h d (Gate o) t = absurd (false≢true t)

now_holder : (M : List ℕ) (w : ℕ) (ws : ℕ → ℕ) (i h : ℕ) (d : ℕ → ℕ) (e : Element) → holds_word e ≡ true → gives_now M e w ws i h d ≡ h
now_holder M w ws i h d Input t = absurd (false≢true t)
now_holder M w ws i h d Output t = absurd (false≢true t)
now_holder M w ws i h d (Register r) t = refl
now_holder M w ws i h d (Async m) t = absurd (false≢true t)
now_holder M w ws i h d (Clocked m r) t = refl
now_holder M w ws i h d (Gate o) t = absurd (false≢true t)

-- an element over time: what it gives at reset, and what it holds next
first_gives : (M : List ℕ) (w : ℕ) (ws i : ℕ → ℕ) (d : ℕ → ℕ → ℕ) (e : Element) → i 0 ≡ 0 → (is_input e || holds_word e) ≡ true → holds_first e ≡ gives M e w ws i d 0
first_gives M w ws i d Input z t = sym z
first_gives M w ws i d Output z t = absurd (false≢true t)
first_gives M w ws i d (Register r) z t = refl
first_gives M w ws i d (Async m) z t = absurd (false≢true t)
first_gives M w ws i d (Clocked m r) z t = refl
first_gives M w ws i d (Gate o) z t = absurd (false≢true t)

next_gives : (M : List ℕ) (w : ℕ) (ws i : ℕ → ℕ) (d : ℕ → ℕ → ℕ) (t : ℕ) (e : Element) → holds_word e ≡ true → holds_next M e (λ p. d p t) ≡ gives M e w ws i d (suc t)
next_gives M w ws i d t Input h = absurd (false≢true h)
next_gives M w ws i d t Output h = absurd (false≢true h)
next_gives M w ws i d t (Register r) h = refl
next_gives M w ws i d t (Async m) h = absurd (false≢true h)
next_gives M w ws i d t (Clocked m r) h = refl
next_gives M w ws i d t (Gate o) h = absurd (false≢true h)

input_gives : (M : List ℕ) (w : ℕ) (ws i : ℕ → ℕ) (d : ℕ → ℕ → ℕ) (t : ℕ) (e : Element) → is_input e ≡ true → i t ≡ gives M e w ws i d t
input_gives M w ws i d t Input h = refl
input_gives M w ws i d t Output h = absurd (false≢true h)
input_gives M w ws i d t (Register r) h = absurd (false≢true h)
input_gives M w ws i d t (Async m) h = absurd (false≢true h)
input_gives M w ws i d t (Clocked m r) h = absurd (false≢true h)
input_gives M w ws i d t (Gate o) h = absurd (false≢true h)

module _ (N : Net) (wf : WellFormed N) where
  pub behaves : Behaves N (λ t port. get_or [] port 0) (zero_word N)
  unfolding zero_word
  behaves = the_run_behaves N wf.sourced (settles N wf) (λ t. [])

  zero-fits : (t v : ℕ) → v < size N → zero_word N t v < 2 ^ width_at N v
  zero-fits = words_fit_lem N wf (λ t port. get_or [] port 0) (zero_word N) behaves (λ t v h e. pow_pos (width_at N v))

  -- ---- at reset
  pub first_word : (v : ℕ) → v < size N → (is_input (element_at N v) || holds_word (element_at N v)) ≡ true → holds_first (element_at N v) ≡ zero_word N 0 v
  unfolding Behaves
  first_word v h t =
      first_gives (contents_at N v) (width_at N v) (λ p. width_at N (source N v p)) (λ s. get_or [] (port_of N v) 0) (λ p s. zero_word N s (source N v p)) (element_at N v) refl t ∙ sym (behaves 0 v h)

  -- ---- in a clock

  module _ (t : ℕ) (ws : List ℕ) (l : Loads N t ws) where
    pub row_fits : RowFits Inputs N ws × RowFits State N ws
    row_fits = (
      λ v h e. subst (λ (x : ℕ). x < 2 ^ width_at N v) (sym (l.at v h (input_loaded (element_at N v) e))) (zero-fits t v h),
      λ v h e. subst (λ (x : ℕ). x < 2 ^ width_at N v) (sym (l.at v h (holder_loaded (element_at N v) e))) (zero-fits t v h),
    )

    all : List ℕ
    all = words N (state_at N (λ s. []) t) []

    all_is : (v : ℕ) → get_or all v 0 ≡ zero_word N t v
    unfolding all zero_word run_word
    all_is v = refl

    all_settled : (v : ℕ) → v < size N → get_or all v 0 ≡ again N (state_at N (λ s. []) t) [] all v
    unfolding all
    all_settled = settled N wf (state_at N (λ s. []) t) []

    input_same : (v : ℕ) → v < size N → is_input (element_at N v) ≡ true → get_or [] (port_of N v) 0 ≡ get_or (row_of Inputs N ws) (port_of N v) 0
    unfolding port_of again
    input_same v h e =
        sym (now_input (contents_now N (state_at N (λ s. []) t) v) (width_at N v) (λ p. width_at N (source N v p)) (get_or [] (port_of N v) 0) (get_or (state_at N (λ s. []) t) (holder_of N v) 0) (λ p. get_or all (source N v p) 0) (element_at N v) e)
        ∙ sym (all_settled v h) ∙ all_is v ∙ sym (l.at v h (input_loaded (element_at N v) e)) ∙ sym (get_or_select (row_test Inputs N) (λ k. get_or ws k 0) (size N) v 0 h e)

    holder_same : (v : ℕ) → v < size N → holds_word (element_at N v) ≡ true → get_or (state_at N (λ s. []) t) (holder_of N v) 0 ≡ get_or (row_of State N ws) (holder_of N v) 0
    unfolding holder_of again
    holder_same v h e =
        sym (now_holder (contents_now N (state_at N (λ s. []) t) v) (width_at N v) (λ p. width_at N (source N v p)) (get_or [] (port_of N v) 0) (get_or (state_at N (λ s. []) t) (holder_of N v) 0) (λ p. get_or all (source N v p) 0) (element_at N v) e)
        ∙ sym (all_settled v h) ∙ all_is v ∙ sym (l.at v h (holder_loaded (element_at N v) e)) ∙ sym (get_or_select (row_test State N) (λ k. get_or ws k 0) (size N) v 0 h e)

    still : (v : ℕ) → v < size N → get_or all v 0 ≡ again N (row_of State N ws) (row_of Inputs N ws) all v
    unfolding again
    still v h =
        all_settled v h
        ∙ ap (λ (M : List ℕ). gives_now M (element_at N v) (width_at N v) (λ p. width_at N (source N v p)) (get_or [] (port_of N v) 0) (get_or (state_at N (λ s. []) t) (holder_of N v) 0) (λ p. get_or all (source N v p) 0)) (contents_now_lem N (state_at N (λ s. []) t) v)
        ∙ now_alike (contents_at N v) (width_at N v) (λ p. width_at N (source N v p)) (get_or [] (port_of N v) 0) (get_or (row_of Inputs N ws) (port_of N v) 0) (get_or (state_at N (λ s. []) t) (holder_of N v) 0)
        (get_or (row_of State N ws) (holder_of N v) 0) (λ p. get_or all (source N v p) 0) (element_at N v) (input_same v h) (holder_same v h)
        ∙ ap (λ (M : List ℕ). gives_now M (element_at N v) (width_at N v) (λ p. width_at N (source N v p)) (get_or (row_of Inputs N ws) (port_of N v) 0) (get_or (row_of State N ws) (holder_of N v) 0) (λ p. get_or all (source N v p) 0)) (sym (contents_now_lem N (row_of State N ws) v))

    -- evaluated they are the words of the clock
    pub words_at_lem : {ws' : List ℕ} → Evaluated N ws ws' → WordsAt N t ws'
    unfolding clock_words
    words_at_lem e v h = e.each v h ∙ sym (settled_once N wf (row_of State N ws) (row_of Inputs N ws) all still v h) ∙ all_is v

  -- ---- and after it

  module _ (t : ℕ) (ws : List ℕ) (w : WordsAt N t ws) where
    pub fits_at : WordsFit N ws
    fits_at v h = subst (λ (x : ℕ). x < 2 ^ width_at N v) (sym (w v h)) (zero-fits t v h)

    pub next_word_lem : (v : ℕ) → v < size N → holds_word (element_at N v) ≡ true → next_word N ws v ≡ zero_word N (t + 1) v
    unfolding Behaves Sourced
    next_word_lem v h e =
        next_same (contents_at N v) (λ p. get_or ws (source N v p) 0) (λ p. zero_word N t (source N v p)) (element_at N v) (λ y. w (source N v 0) (wf.sourced v 0 h (holder_reads (element_at N v) y)))
        ∙ next_gives (contents_at N v) (width_at N v) (λ p. width_at N (source N v p)) (λ s. get_or [] (port_of N v) 0) (λ p s. zero_word N s (source N v p)) t (element_at N v) e
        ∙ sym (behaves (suc t) v h) ∙ ap (λ (s : ℕ). zero_word N s v) (let q : suc t ≡ t + 1 = omega arith in q)

  -- an input port has 0 at every clock
  pub input_word : (t v : ℕ) → v < size N → is_input (element_at N v) ≡ true → 0 ≡ zero_word N t v
  unfolding Behaves
  input_word t v h e =
      input_gives (contents_at N v) (width_at N v) (λ p. width_at N (source N v p)) (λ s. get_or [] (port_of N v) 0) (λ p s. zero_word N s (source N v p)) t (element_at N v) e ∙ sym (behaves t v h)

-- ---- a list that is loaded node by node

module _ (N : Net) (t : ℕ) where
  abbrev pub LoadedTo : List ℕ → ℕ → Type 0
  LoadedTo words i = (v : ℕ) → v < i → LoadedAt N t words v

  pub load_more : (ws : List ℕ) {ws' : List ℕ} {i x : ℕ} → LoadedTo ws i → i < length ws → ws' ≡ set ws i x → ((is_input (element_at N i) || holds_word (element_at N i)) ≡ true → x ≡ zero_word N t i) → LoadedTo ws' (i + 1)
  load_more ws {ws'} {i} {x} a l p q v h e =
      ⊎_elim (λ y. ap (λ (z : List ℕ). get_or z v 0) p ∙ get_or-set_other ws i v x 0 (λ k. omega arith) ∙ a v y e)
      (λ y. ap (λ (z : List ℕ). get_or z v 0) p ∙ ap (λ (k : ℕ). get_or (set ws i x) k 0) y ∙ get_or-set_same ws i x 0 l
      ∙ q (subst (λ (k : ℕ). (is_input (element_at N k) || holds_word (element_at N k)) ≡ true) y e) ∙ ap (zero_word N t) (sym y)) (lt-suc_split (let z : v < suc i = omega arith in z))

-- where an element holds no word it is loaded only if it is an input port
pub no_holder : (e : Element) → holds_word e ≡ false → (is_input e || holds_word e) ≡ true → is_input e ≡ true
no_holder Input h t = refl
no_holder Output h t = absurd (false≢true t)
no_holder (Register r) h t = absurd (true≢false h)
no_holder (Async m) h t = absurd (false≢true t)
no_holder (Clocked m r) h t = absurd (true≢false h)
no_holder (Gate o) h t = absurd (false≢true t)

-- what holds no word has 0 after reset
holds_none : (e : Element) → holds_word e ≡ false → 0 ≡ holds_first e
holds_none Input h = refl
holds_none Output h = refl
holds_none (Register r) h = absurd (true≢false h)
holds_none (Async m) h = refl
holds_none (Clocked m r) h = absurd (true≢false h)
holds_none (Gate o) h = refl

pub first_none : (N : Net) (wf : WellFormed N) (v : ℕ) → v < size N → holds_word (element_at N v) ≡ false → Begins N 0 v 0
first_none N wf v h q t = holds_none (element_at N v) q ∙ first_word N wf v h t

-- the word after reset, as the code reads it
pub first_read : (N : Net) (wf : WellFormed N) (v : ℕ) → v < size N → holds_word (element_at N v) ≡ true → {r : ℕ} → r ≡ number_or r (element_at N v) → Begins N 0 v r
first_read N wf v h on q t = number_first (element_at N v) on q ∙ first_word N wf v h t
