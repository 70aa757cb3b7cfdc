-- A try at one node, over plain values. Assumes nothing.
use mathlib.Core.Path.{◌≡◌, refl, sym, ap, subst, ◌∙◌}
use mathlib.Core.Bool.{true, false}
use mathlib.Core.Logic.{⊎_elim}
use mathlib.Core.List.{List}
use Prim.Native.Nat.{ℕ, suc, ◌+◌, ◌≤◌, ◌<◌}
use native.Mathlib.Nat.{le_refl}
use native.Mathlib.Omega.{arith}
use lib.ListN.{length, get_or, set, replicate, length-set, length-replicate}
use lib.Seq.{get_or-set_same, get_or-set_other}
use borrow.Author.Tests.{le-ltb}
use Rattle.lists.specs.Lists.{one}
use Rattle.lists.proofs.BelowLaws.{lt-suc_split}
use Rattle.lists.proofs.Sections.{section_replicate, section-length, section-read, section-put, section_before, section-after, last_read, last_put}
use Rattle.netlist.specs.Net.{Class, Net, size, operands, within_clock, is_register, is_clocked, Sourced}
use Rattle.netlist.specs.declared.Element.{Element}
use Rattle.netlist.specs.declared.Element.TheVariants.{Input, Output, Register, Async, Clocked, Gate}
use Rattle.order.specs.Pass.{Waiting, once_more, swept_rest}
use Rattle.order.specs.Order.{flags_in, order_in, Placed, ready, PlacedOnce, PlacedPass, Outcome}
use Rattle.order.specs.OrderLaws.{room, placed_none, placed_more, outcome, outcome_as}

-- the steps within the clock: all, but for what holds a word
pub passes_on : (e : Element) → one (is_register e) + one (is_clocked e) ≡ 0 → operands e ≡ within_clock e
passes_on Input h = refl
passes_on Output h = refl
passes_on (Register r) h = absurd (omega arith)
passes_on (Async m) h = refl
passes_on (Clocked m r) h = absurd (omega arith)
passes_on (Gate o) h = refl

pub passes_nothing : (e : Element) → (one (is_register e) + one (is_clocked e) ≡ 0 → ⊥) → 0 ≡ within_clock e
passes_nothing Input h = refl
passes_nothing Output h = absurd (h refl)
passes_nothing (Register r) h = refl
passes_nothing (Async m) h = absurd (h refl)
passes_nothing (Clocked m r) h = refl
passes_nothing (Gate o) h = absurd (h refl)

-- ---- the sections of the area

-- flag v is read
pub flag_read : {v w r : ℕ} (area : List ℕ) → length area ≡ 4096 → w ≡ v → r ≡ get_or area (3072 + w) 0 → r ≡ get_or (flags_in area) v 0
flag_read {v} area h e d = d ∙ ap (λ (k : ℕ). get_or area (3072 + k) 0) e ∙ sym (last_read 3072 1024 area (omega arith) v)

-- place i of the order is read
pub order_read : {i r : ℕ} (area : List ℕ) → i < 1024 → r ≡ get_or area i 0 → r ≡ get_or (order_in area) i 0
order_read {i} area l d = let e : i ≡ 0 + i = omega arith in d ∙ ap (λ (j : ℕ). get_or area j 0) e ∙ sym (section-read 0 1024 area i l)

-- place k of the order is put, then flag v
module _ (area node exit : List ℕ) (k v : ℕ) (h : length area ≡ 4096) (l : k < 1024) (p : node ≡ set area k v) (q : exit ≡ set node (3072 + v) 1) where
  order_put : order_in exit ≡ set (order_in area) k v
  order_put =
      let e : k ≡ 0 + k = omega arith in
      ap order_in q ∙ section-after 0 1024 node (3072 + v) 1 (omega arith) ∙ ap order_in (p ∙ ap (λ (j : ℕ). set area j v) e) ∙ section-put 0 1024 area k v l

  flag_put : flags_in exit ≡ set (flags_in area) v 1
  flag_put =
      ap flags_in q ∙ last_put 3072 1024 node (omega (arith, ap length p, length-set area k v)) v 1
      ∙ ap (λ (m : List ℕ). set m v 1) (ap flags_in p ∙ section_before 3072 1024 area k v (omega arith))

-- a node waits: neither is touched
pub waits_kept : (area m exit : List ℕ) (u v x y : ℕ) → m ≡ set area (2048 + v) y → exit ≡ set m (1024 + u) x → v < 1024 → u < 1024 → (flags_in exit ≡ flags_in area) × (order_in exit ≡ order_in area)
waits_kept area m exit u v x y p q h l = (
  ap flags_in q ∙ section_before 3072 1024 m (1024 + u) x (omega arith) ∙ ap flags_in p ∙ section_before 3072 1024 area (2048 + v) y (omega arith),
  ap order_in q ∙ section-after 0 1024 m (1024 + u) x (omega arith) ∙ ap order_in p ∙ section-after 0 1024 area (2048 + v) y (omega arith),
)

module _ (K : Class) (N : Net) where
  pub placed_once : (area : List ℕ) {node exit : List ℕ} {k v : ℕ} → length area ≡ 4096 → size N ≤ 1024 → Placed K N (flags_in area) (order_in area) k → Sourced N → v < size N
      → get_or (flags_in area) v 0 ≤ 0 → ready K N (flags_in area) v ≡ true → node ≡ set area k v → exit ≡ set node (3072 + v) 1 → PlacedOnce K N (flags_in area) (flags_in exit) (order_in exit) k (k + 1) v
  placed_once area {node} {exit} {k} {v} h few t sourced l off all p q =
      let o = le-ltb 0 (get_or (flags_in area) v 0) off in
      let m : k < 1024 = omega (arith, room K N t v l o) in
      once_more (subst (λ (x : List ℕ). Placed K N x (order_in exit) (k + 1)) (sym (flag_put area node exit k v h m p q))
      (subst (λ (y : List ℕ). Placed K N (set (flags_in area) v 1) y (k + 1)) (sym (order_put area node exit k v h m p q)) (placed_more K N t sourced v l o all)))

  pub placed_waits : (area exit : List ℕ) {k v : ℕ} → Placed K N (flags_in area) (order_in area) k → ready K N (flags_in area) v ≡ false → (flags_in exit ≡ flags_in area) × (order_in exit ≡ order_in area)
      → PlacedOnce K N (flags_in area) (flags_in exit) (order_in exit) k k v
  placed_waits area exit {k} t off e = record {
    holds = subst (λ (x : List ℕ). Placed K N x (order_in exit) k) (sym e.0) (subst (λ (y : List ℕ). Placed K N (flags_in area) y k) (sym e.1) t);
    grows = le_refl k;
    still = λ _. (e.0, λ _. off);
  }

  pub placed_start : (area : List ℕ) → area ≡ replicate 4096 0 → size N ≤ 1024 → Placed K N (flags_in area) (order_in area) 0
  placed_start area e h =
      let f : flags_in area ≡ replicate 1024 0 = ap flags_in e ∙ section_replicate 3072 1024 4096 0 (omega arith) in
      subst (λ (x : List ℕ). Placed K N x (order_in area) 0) (sym f)
      (placed_none K N 1024 (order_in area) h (omega (arith, section-length 0 1024 area (omega (arith, ap length e, length-replicate {A = ℕ} 4096 0)))))

  pub placed_rest : {flags₀ flags order : List ℕ} {k₀ k i : ℕ} → PlacedPass K N flags₀ flags order k₀ k i → k ≡ k₀ → Placed K N flags order k₀ × Waiting (ready K N) flags i
  placed_rest {flags₀} {flags} {order} {k₀} {k} {i} s e = (subst (λ (m : ℕ). Placed K N flags order m) e s.holds, swept_rest s e)

  -- where nothing more can be placed, and the order is kept
  pub outcome_in : (area turns : List ℕ) {k : ℕ} → size N ≤ 1024 → Sourced N → Placed K N (flags_in area) (order_in area) k → Waiting (ready K N) (flags_in area) (size N)
      → ((i : ℕ) → i < size N → get_or turns i 0 ≡ get_or area i 0) → Outcome K N turns k
  outcome_in area turns h sourced t rest same =
      let read : (i : ℕ) → i < size N → get_or (order_in area) i 0 ≡ get_or area i 0 = λ i l. section-read 0 1024 area i (omega arith) ∙ ap (λ (j : ℕ). get_or area j 0) (let e : 0 + i ≡ i = omega arith in e) in
      outcome_as K N (order_in area) turns (λ i l. same i l ∙ sym (read i l)) (outcome K N t sourced rest)

-- ---- an order is copied, place by place

pub copied_more : (order area : List ℕ) {order' : List ℕ} {i x : ℕ} → i < length order → order' ≡ set order i x → x ≡ get_or area i 0
    → ((j : ℕ) → j < i → get_or order j 0 ≡ get_or area j 0) → (j : ℕ) → j < i + 1 → get_or order' j 0 ≡ get_or area j 0
copied_more order area {order'} {i} {x} h p e f j l =
    ap (λ (m : List ℕ). get_or m j 0) p
    ∙ ⊎_elim (λ a. get_or-set_other order i j x 0 (λ d. omega arith) ∙ f j a)
    (λ a. ap (λ (k : ℕ). get_or (set order i x) k 0) a ∙ get_or-set_same order i x 0 h ∙ e ∙ ap (λ (k : ℕ). get_or area k 0) (sym a)) (lt-suc_split (let b : j < suc i = omega arith in b))
