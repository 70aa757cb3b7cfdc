-- Nodes are evaluated one after the other in an order in which each comes after what it reads. Assumes nothing.
use Rattle.std.specs.Prelude.{◌≡◌, refl, true, false, ℕ, suc, ◌+◌, ◌^◌, ◌≤◌, ◌<◌, length, set, eqb}
use Rattle.std.proofs.Math.Path.{sym, ap}
use Rattle.std.proofs.Common.{subst, ◌∙◌, ⊎_elim, true≢false, not-suc-le-zero, arith, length-set, get_or-set_same, get_or-set_other, lit<}
use Rattle.std.proofs.lemmas.Bool.{false≢true}
use mathlib.Core.List.{List}
use Rattle.std.proofs.Math.ListN.{get_or}
use Rattle.lists.specs.Lists.{count_below}
use Rattle.lists.proofs.BelowLaws.{true_or_false, eqb-true, eqb_differ, lt-suc_split}
use Rattle.lists.proofs.ListsLaws.{get_or_select}
use Rattle.netlist.specs.Net.{Net, size, element_at, width_at, source, within_clock, within_few, in_clock, is_input, holds_word, contents_at, port_of, Sourced}
use Rattle.netlist.specs.Checks.{WellFormed}
use Rattle.netlist.specs.declared.Element.{Element}
use Rattle.netlist.specs.declared.Element.TheVariants.{Input, Output, Register, Async, Clocked, Gate}
use Rattle.circuit.specs.Order.{Stands, Complete}
use Rattle.behaviour.specs.Run.{gives_now, holder_of, contents_now, again}
use Rattle.behaviour.proofs.Run.{contents_now_lem}
use Rattle.behaviour.proofs.Gives.{operate-cong}
use Rattle.evaluate.specs.Rows.{row_test, row_of, RowFits}
use Rattle.evaluate.specs.Clock.{loaded, node_word, OperandsFit, clock_words, Evaluated}
use Rattle.behaviour.proofs.Settled.{settled}
use Rattle.behaviour.proofs.ClockFits as fits
use Rattle.evaluate.specs.declared.Row.{Row}
use Rattle.evaluate.specs.declared.Row.TheVariants.{Inputs, State}

-- an element that is not loaded depends on what it reads within the clock
pub now_same : (M : List ℕ) (w : ℕ) (ws : ℕ → ℕ) (own i h : ℕ) (d d' : ℕ → ℕ) (e : Element) → loaded e ≡ false → ((p : ℕ) → p < within_clock e → d p ≡ d' p)
    → gives_now M e w ws own own d ≡ gives_now M e w ws i h d'
now_same M w ws own i h d d' Input l k = absurd (true≢false l)
now_same M w ws own i h d d' Output l k = k 0 (lit< tt)
now_same M w ws own i h d d' (Register r) l k = absurd (true≢false l)
now_same M w ws own i h d d' (Async m) l k = ap (λ (x : ℕ). get_or M x 0) (k 0 (lit< tt))
now_same M w ws own i h d d' (Clocked m r) l k = absurd (true≢false l)
now_same M w ws own i h d d' (Gate o) l k = operate-cong w ws ws d d' o (λ p q. refl) k

-- a loaded one gives its own word
pub own-word : (M : List ℕ) (w : ℕ) (ws : ℕ → ℕ) (own i h : ℕ) (d : ℕ → ℕ) (e : Element) → loaded e ≡ true → (is_input e ≡ true → i ≡ own) → (holds_word e ≡ true → h ≡ own)
    → gives_now M e w ws i h d ≡ own
own-word M w ws own i h d Input l a b = a refl
own-word M w ws own i h d Output l a b = absurd (false≢true l)
own-word M w ws own i h d (Register r) l a b = b refl
own-word M w ws own i h d (Async m) l a b = absurd (false≢true l)
own-word M w ws own i h d (Clocked m r) l a b = b refl
own-word M w ws own i h d (Gate o) l a b = absurd (false≢true l)

-- ---- the words that were loaded are those of the clock

module _ (N : Net) (wf : WellFormed N) (ws : List ℕ) where
  row_word : (row : Row) (v : ℕ) → v < size N → row_test row N v ≡ true → get_or (row_of row N ws) (count_below (row_test row N) v) 0 ≡ get_or ws v 0
  row_word row v h t = get_or_select (row_test row N) (λ k. get_or ws k 0) (size N) v 0 h t

  loaded_word : (v : ℕ) → v < size N → loaded (element_at N v) ≡ true → get_or (clock_words N ws) v 0 ≡ get_or ws v 0
  unfolding clock_words again port_of holder_of
  loaded_word v h t =
      settled N wf (row_of State N ws) (row_of Inputs N ws) v h
      ∙ own-word (contents_now N (row_of State N ws) v) (width_at N v) (λ p. width_at N (source N v p)) (get_or ws v 0) (get_or (row_of Inputs N ws) (port_of N v) 0) (get_or (row_of State N ws) (holder_of N v) 0)
      (λ p. get_or (clock_words N ws) (source N v p) 0) (element_at N v) t (row_word Inputs v h) (row_word State v h)

  pub clock-fits : RowFits Inputs N ws → RowFits State N ws → (v : ℕ) → v < size N → get_or (clock_words N ws) v 0 < 2 ^ width_at N v
  unfolding clock_words port_of holder_of fits.PortsFit fits.HoldersFit
  clock-fits a b =
      fits.clock-fits N wf (row_of State N ws) (row_of Inputs N ws) (λ u h y. rw (row_word State u h y) (b u h y)) (λ u h y. rw (row_word Inputs u h y) (a u h y))

-- ---- the first i of the order are evaluated, and what was loaded is still there

pub record Settling (N : Net) (order before after : List ℕ) (i : ℕ) : Type 0 where
  pub kept : length after ≡ length before
  pub given : (v : ℕ) → v < size N → loaded (element_at N v) ≡ true → get_or after v 0 ≡ get_or (clock_words N before) v 0
  pub stand : (v : ℕ) → Stands order i v → get_or after v 0 ≡ get_or (clock_words N before) v 0

pub settle_none : (N : Net) → WellFormed N → (order ws : List ℕ) → Settling N order ws ws 0
settle_none N wf order ws = record { kept = refl; given = λ v h t. sym (loaded_word N wf ws v h t); stand = λ v s. absurd (not-suc-le-zero s.1) }

module _ {N : Net} {order before after : List ℕ} {i : ℕ} (wf : WellFormed N) (all : Complete in_clock N order) (t : Settling N order before after i) where
  pub settle_all : i ≡ size N → Evaluated N before after
  settle_all e = record { kept = t.kept; each = λ v h. t.stand v (subst (λ (k : ℕ). Stands order k v) (sym e) (all.all v h)) }

  module _ (l : i < size N) where
    abbrev v : ℕ
    v = get_or order i 0

    pub settle_inside : v < size N
    settle_inside = all.ordered.inside i l

    -- its sources stand before it
    read_right : (p : ℕ) → p < within_clock (element_at N v) → get_or after (source N v p) 0 ≡ get_or (clock_words N before) (source N v p) 0
    read_right p q = t.stand (source N v p) (all.ordered.after i p l q)

    pub settle_fits : RowFits Inputs N before → RowFits State N before → OperandsFit N after v
    unfolding Sourced
    settle_fits a b p q = rw (read_right p q) (clock-fits N wf before a b (source N v p) (wf.sourced v p settle_inside (omega (arith, within_few (element_at N v)))))

    -- a node that is loaded has its word
    pub settle_own : loaded (element_at N v) ≡ true → Settling N order before after (i + 1)
    settle_own y = record { kept = t.kept; given = t.given; stand = stand }
      where
        stand : (u : ℕ) → Stands order (i + 1) u → get_or after u 0 ≡ get_or (clock_words N before) u 0
        stand u (j, m, e) =
            ⊎_elim (λ k. t.stand u (j, k, e))
            (λ k. subst (λ (w : ℕ). get_or after w 0 ≡ get_or (clock_words N before) w 0) (ap (λ (n : ℕ). get_or order n 0) (sym k) ∙ e) (t.given v settle_inside y))
            (lt-suc_split (let k : j < suc i = omega arith in k))

    module _ (x : ℕ) (is : x ≡ node_word N after v) (room : size N ≤ length before) (new : loaded (element_at N v) ≡ false) where
      x_right : x ≡ get_or (clock_words N before) v 0
      unfolding clock_words node_word again source
      x_right =
          is
          ∙ now_same (contents_at N v) (width_at N v) (λ p. width_at N (source N v p)) (get_or after v 0) (get_or (row_of Inputs N before) (port_of N v) 0) (get_or (row_of State N before) (holder_of N v) 0)
          (λ p. get_or after (source N v p) 0) (λ p. get_or (clock_words N before) (source N v p) 0) (element_at N v) new read_right
          ∙ ap (λ (M : List ℕ). gives_now M (element_at N v) (width_at N v) (λ p. width_at N (source N v p)) (get_or (row_of Inputs N before) (port_of N v) 0) (get_or (row_of State N before) (holder_of N v) 0)
          (λ p. get_or (clock_words N before) (source N v p) 0)) (sym (contents_now_lem N (row_of State N before) v))
          ∙ sym (settled N wf (row_of State N before) (row_of Inputs N before) v settle_inside)

      here : (u : ℕ) → u ≡ v → get_or (set after v x) u 0 ≡ get_or (clock_words N before) u 0
      here u e =
          let k = t.kept in
          let h = settle_inside in
          ap (λ (j : ℕ). get_or (set after v x) j 0) e ∙ get_or-set_same after v x 0 (omega arith) ∙ x_right ∙ ap (λ (j : ℕ). get_or (clock_words N before) j 0) (sym e)

      -- what was right stays so
      still : (u : ℕ) → get_or after u 0 ≡ get_or (clock_words N before) u 0 → get_or (set after v x) u 0 ≡ get_or (clock_words N before) u 0
      still u r = ⊎_elim (λ y. here u (eqb-true y)) (λ y. get_or-set_other after v u x 0 (eqb_differ y) ∙ r) (true_or_false (eqb u v))

      pub settle_more : Settling N order before (set after v x) (i + 1)
      settle_more = record { kept = length-set after v x ∙ t.kept; given = λ u h y. still u (t.given u h y); stand = stand }
        where
          stand : (u : ℕ) → Stands order (i + 1) u → get_or (set after v x) u 0 ≡ get_or (clock_words N before) u 0
          stand u (j, m, e) =
              ⊎_elim (λ k. still u (t.stand u (j, k, e))) (λ k. here u (sym e ∙ ap (λ (n : ℕ). get_or order n 0) k)) (lt-suc_split (let k : j < suc i = omega arith in k))
