-- The run from reset is a behaviour, where the rounds of a clock settle: a rank below the number of nodes. Assumes nothing.
use Rattle.std.specs.Prelude.{◌≡◌, refl, true, List}
use Rattle.std.proofs.Math.Path.{sym}
use Rattle.std.proofs.Common.{ap, ◌∙◌, not-suc-le-zero, arith, lit<}
use Prim.Native.Nat.{ℕ, zero, suc, ◌<◌}
use Rattle.std.proofs.Math.ListN.{get_or}
use Rattle.netlist.specs.declared.Element.{Element}
use Rattle.netlist.specs.declared.Element.TheVariants.{Input, Output, Register, Async, Clocked, Gate}
use Rattle.lists.specs.Lists.{select, count_below}
use Rattle.lists.proofs.BelowLaws.{get_or_listed}
use Rattle.lists.proofs.ListsLaws.{get_or_select}
use Rattle.netlist.specs.Net.{Net, size, element_at, width_at, source, gives, delayed, held_by, contents_at, holds_word, within_clock, within_few, port_of, Behaves, Sourced, Ranked, RankedIn}
use Rattle.behaviour.specs.Run.{gives_now, holds_next, holds_first, holder_of, contents_now, again, round, words_after, words, reset_state, next_state, run_state, state_at, run_word}
use Rattle.behaviour.proofs.Gives.{operate-cong, delayed-cong}

pub rom_held : (e : Element) (M : List ℕ) (d : ℕ → ℕ → ℕ) (t : ℕ) → held_by e M d t ≡ M
rom_held Input M d t = refl
rom_held Output M d t = refl
rom_held (Register r) M d t = refl
rom_held (Async m) M d t = refl
rom_held (Clocked m r) M d t = refl
rom_held (Gate o) M d t = refl

-- a node that works within the clock depends on its operands; any other does not
gives_now_cong : (M : List ℕ) (w : ℕ) (ws : ℕ → ℕ) (i h : ℕ) (d d' : ℕ → ℕ) (e : Element)
    → ((p : ℕ) → p < within_clock e → d p ≡ d' p) → gives_now M e w ws i h d ≡ gives_now M e w ws i h d'
gives_now_cong M w ws i h d d' Input k = refl
gives_now_cong M w ws i h d d' Output k = k 0 (lit< tt)
gives_now_cong M w ws i h d d' (Register r) k = refl
gives_now_cong M w ws i h d d' (Async m) k = ap (λ (a : ℕ). get_or M a 0) (k 0 (lit< tt))
gives_now_cong M w ws i h d d' (Clocked m r) k = refl
gives_now_cong M w ws i h d d' (Gate o) k = operate-cong w ws ws d d' o (λ p q. refl) k

module _ (N : Net) (rank : ℕ → ℕ) (sourced : Sourced N) (ranked : Ranked N rank) (small : (v : ℕ) → v < size N → rank v < size N) where
  module _ (state ins : List ℕ) where
    words_after-suc : (k v : ℕ) → v < size N → get_or (words_after N state ins (suc k)) v 0 ≡ again N state ins (words_after N state ins k) v
    unfolding words_after round
    words_after-suc k v h = get_or_listed (λ u. again N state ins (words_after N state ins k) u) (size N) v 0 h

    -- a node of rank below k does not change after round k
    stays : (k v : ℕ) → v < size N → rank v < k → get_or (words_after N state ins (suc k)) v 0 ≡ get_or (words_after N state ins k) v 0
    unfolding again Sourced RankedIn
    stays zero v h l = absurd (not-suc-le-zero l)
    stays (suc k) v h l =
        words_after-suc (suc k) v h
        ∙ gives_now_cong (contents_now N state v) (width_at N v) (λ p. width_at N (source N v p)) (get_or ins (port_of N v) 0) (get_or state (holder_of N v) 0)
        (λ p. get_or (words_after N state ins (suc k)) (source N v p) 0) (λ p. get_or (words_after N state ins k) (source N v p) 0) (element_at N v)
        (λ p q. stays k (source N v p) (sourced v p h (omega (arith, within_few (element_at N v)))) (omega (arith, ranked v p h q)))
        ∙ sym (words_after-suc k v h)

    -- so the words of a clock are what one more round gives
    pub words_settled : (v : ℕ) → v < size N → get_or (words N state ins) v 0 ≡ again N state ins (words N state ins) v
    unfolding words
    words_settled v h = sym (stays (size N) v h (small v h)) ∙ words_after-suc (size N) v h

  -- and nothing else is: words that one more round leaves as they are, in whatever order they were found, are the words of the clock
  module _ (state ins ws : List ℕ) (still : (v : ℕ) → v < size N → get_or ws v 0 ≡ again N state ins ws v) where
    still_level : (k v : ℕ) → v < size N → rank v < k → get_or ws v 0 ≡ get_or (words N state ins) v 0
    unfolding again Sourced RankedIn
    still_level zero v h l = absurd (not-suc-le-zero l)
    still_level (suc k) v h l =
        still v h
        ∙ gives_now_cong (contents_now N state v) (width_at N v) (λ p. width_at N (source N v p)) (get_or ins (port_of N v) 0) (get_or state (holder_of N v) 0)
        (λ p. get_or ws (source N v p) 0) (λ p. get_or (words N state ins) (source N v p) 0) (element_at N v)
        (λ p q. still_level k (source N v p) (sourced v p h (omega (arith, within_few (element_at N v)))) (omega (arith, ranked v p h q)))
        ∙ sym (words_settled state ins v h)

    pub words_only : (v : ℕ) → v < size N → get_or ws v 0 ≡ get_or (words N state ins) v 0
    words_only v h = still_level (suc (rank v)) v h (omega arith)

  -- ---- the state at clock t

  -- an own word stands at its node's place
  own-word : (h : ℕ → ℕ) (v : ℕ) → v < size N → holds_word (element_at N v) ≡ true
      → get_or (select (λ u. holds_word (element_at N u)) h (size N)) (count_below (λ u. holds_word (element_at N u)) v) 0 ≡ h v
  own-word h v l e = get_or_select (λ u. holds_word (element_at N u)) h (size N) v 0 l e

  -- the word that node v holds at clock t
  module _ (ins : ℕ → List ℕ) where
    held : (v : ℕ) → v < size N → holds_word (element_at N v) ≡ true → (t : ℕ)
        → get_or (state_at N ins t) (holder_of N v) 0 ≡ delayed (holds_first (element_at N v)) (λ s. holds_next (contents_now N (state_at N ins s) v) (element_at N v) (λ p. run_word N ins s (source N v p))) t
    unfolding state_at reset_state run_state next_state holder_of run_word
    held v h e zero = own-word (λ u. holds_first (element_at N u)) v h e
    held v h e (suc t) =
        own-word (λ u. holds_next (contents_now N (state_at N ins t) u) (element_at N u) (λ p. get_or (words N (state_at N ins t) (ins t)) (source N u p) 0)) v h e

    contents_held : (t v : ℕ) → contents_now N (state_at N ins t) v ≡ held_by (element_at N v) (contents_at N v) (λ p s. run_word N ins s (source N v p)) t
    unfolding contents_now
    contents_held t v = sym (rom_held (element_at N v) (contents_at N v) (λ p s. run_word N ins s (source N v p)) t)

    gives_step : (M : List ℕ) (C : ℕ → List ℕ) (e : Element) (w : ℕ) (ws : ℕ → ℕ) (i : ℕ → ℕ) (h t : ℕ) (d : ℕ → ℕ → ℕ)
        → ((s : ℕ) → C s ≡ held_by e M d s) → (holds_word e ≡ true → h ≡ delayed (holds_first e) (λ s. holds_next (C s) e (λ p. d p s)) t)
        → gives_now (C t) e w ws (i t) h (λ p. d p t) ≡ gives M e w ws i d t
    gives_step M C Input w ws i h t d c k = refl
    gives_step M C Output w ws i h t d c k = refl
    gives_step M C (Register r) w ws i h t d c k = k refl
    gives_step M C (Async m) w ws i h t d c k = ap (λ (l : List ℕ). get_or l (d 0 t) 0) (c t)
    gives_step M C (Clocked m r) w ws i h t d c k = k refl ∙ delayed-cong r _ _ t (λ s l. ap (λ (l : List ℕ). get_or l (d 0 s) 0) (c s))
    gives_step M C (Gate o) w ws i h t d c k = refl

    pub run_behaves : Behaves N (λ t port. get_or (ins t) port 0) (run_word N ins)
    unfolding Behaves run_word again
    run_behaves t v h =
        words_settled (state_at N ins t) (ins t) v h
        ∙ gives_step (contents_at N v) (λ s. contents_now N (state_at N ins s) v) (element_at N v) (width_at N v) (λ p. width_at N (source N v p)) (λ s. get_or (ins s) (port_of N v) 0) (get_or (state_at N ins t) (holder_of N v) 0) t
        (λ p s. run_word N ins s (source N v p)) (λ s. contents_held s v) (λ e. held v h e t)
