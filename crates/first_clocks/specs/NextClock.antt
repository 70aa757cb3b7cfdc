-- From one clock to the next: what registers and clocked ROMs hold is put in the place of their words. Assumes nothing.
use Rattle.std.specs.Prelude.{◌≡◌, refl, true, false, ◌||◌, List, ℕ, suc, ◌+◌, ◌≤◌, ◌<◌, length, get_or, set}
use Rattle.std.proofs.Common.{sym, ap, ◌∙◌, ⊎_elim, not-suc-le-zero, arith, length-set, get_or-set_same, get_or-set_other}
use Rattle.std.proofs.lemmas.Bool.{false≢true}
use Rattle.std.proofs.Math.Decide.{ℕ_discrete}
use Rattle.lists.specs.Lists.{count_below}
use Rattle.lists.proofs.BelowLaws.{true_or_false, lt-suc_split, count_below-lt}
use Rattle.lists.specs.SelectLaws.{Member}
use Rattle.lists.proofs.SelectLaws.{select_at, members_count, member}
use Rattle.netlist.specs.Net.{Net, size, element_at, is_input, holds_word}
use Rattle.netlist.specs.Checks.{WellFormed}
use Rattle.behaviour.specs.Run.{zero_word}
use Rattle.evaluate.specs.Rows.{row_test, row_members}
use Rattle.evaluate.specs.declared.Row.TheVariants.{State}
use Rattle.evaluate.specs.Next.{next_word}
use Rattle.first_clocks.specs.Wanted.{WordsAt}
use Rattle.first_clocks.specs.ZeroRun.{Loads, no_holder, input_word, next_word_lem}

-- a member of the state's row
pub state_member : (N : Net) {members : List ℕ} → members ≡ row_members State N → {i v : ℕ} → i < length members → v ≡ get_or members i 0 → Member (row_test State N) (size N) i v
state_member N m = member (row_test State N) (size N) m

-- every node that holds a word is one
listed : (N : Net) {members : List ℕ} → members ≡ row_members State N → (v : ℕ) → v < size N → row_test State N v ≡ true → (i : ℕ) × (i < length members) × (get_or members i 0 ≡ v)
listed N {members} m v h e =
    let i = count_below (row_test State N) v in
    let x : Member (row_test State N) (size N) i v = record { on = e; low = h; place = refl } in
    (i, omega (arith, members_count (row_test State N) (size N) m, count_below-lt (row_test State N) v (size N) e h), ap (λ (l : List ℕ). get_or l i 0) m ∙ select_at (λ u. u) 0 x)

-- ---- the words that are held next

-- the first n members have theirs
abbrev pub HeldTo : Net → List ℕ → List ℕ → List ℕ → ℕ → Type 0
HeldTo N members words next n = (i : ℕ) → i < n → get_or next (get_or members i 0) 0 ≡ next_word N words (get_or members i 0)

pub held_none : (N : Net) (members words next : List ℕ) → HeldTo N members words next 0
held_none N members words next i l = absurd (not-suc-le-zero l)

pub held_more : (N : Net) (members words next : List ℕ) {after : List ℕ} {n v : ℕ} → HeldTo N members words next n → v ≡ get_or members n 0 → v < length next → after ≡ set next v (next_word N words v) → HeldTo N members words after (n + 1)
held_more N members words next {after} {n} {v} s is l e i h = ap (λ (x : List ℕ). get_or x (get_or members i 0) 0) e ∙ elim (ℕ_discrete (get_or members i 0) v) [
  | yes q ↦ (ap (λ (k : ℕ). get_or (set next v (next_word N words v)) k 0) q ∙ get_or-set_same next v (next_word N words v) 0 l ∙ ap (next_word N words) (sym q))
  | no q ↦ (get_or-set_other next v (get_or members i 0) (next_word N words v) 0 q ∙ ⊎_elim (s i) (λ y. absurd (q (ap (λ (k : ℕ). get_or members k 0) y ∙ sym is))) (lt-suc_split (let z : i < suc n = omega arith in z)))
]

pub held_all : (N : Net) {members : List ℕ} (words next : List ℕ) {n : ℕ} → members ≡ row_members State N → HeldTo N members words next n → length members ≤ n
    → (v : ℕ) → v < size N → row_test State N v ≡ true → get_or next v 0 ≡ next_word N words v
held_all N words next m s l v h e =
    let r = listed N m v h e in
    ap (λ (k : ℕ). get_or next k 0) (sym r.2) ∙ s r.0 (omega (arith, r.1)) ∙ ap (next_word N words) r.2

-- ---- words put by the numbers of their nodes

-- those of the first n members; all others stay
pub record Renewed (members next before after : List ℕ) (n : ℕ) : Type 0 where
  pub kept : length after ≡ length before
  pub given : (i : ℕ) → i < n → get_or members i 0 < length before → get_or after (get_or members i 0) 0 ≡ get_or next (get_or members i 0) 0
  pub others : (v : ℕ) → ((i : ℕ) → i < n → get_or members i 0 ≡ v → ⊥) → get_or after v 0 ≡ get_or before v 0

module _ (members next before : List ℕ) where
  pub renewed_none : Renewed members next before before 0
  renewed_none = record { kept = refl; given = λ i l. absurd (not-suc-le-zero l); others = λ v h. refl }

  pub renewed_more : {mid after : List ℕ} {n v : ℕ} → Renewed members next before mid n → v ≡ get_or members n 0 → after ≡ set mid v (get_or next v 0) → Renewed members next before after (n + 1)
  renewed_more {mid} {after} {n} {v} s is e = record {
    kept = ap length e ∙ length-set mid v (get_or next v 0) ∙ s.kept;
    given = λ i l h. ap (λ (x : List ℕ). get_or x (get_or members i 0) 0) e ∙ put (get_or members i 0) h (λ d. ⊎_elim (λ y. s.given i y h) (λ y. absurd (d (ap (λ (k : ℕ). get_or members k 0) y ∙ sym is))) (lt-suc_split (let z : i < suc n = omega arith in z)));
    others = λ u h. ap (λ (x : List ℕ). get_or x u 0) e ∙ get_or-set_other mid v u (get_or next v 0) 0 (λ q. h n (omega arith) (sym is ∙ sym q)) ∙ s.others u (λ i l. h i (omega arith));
  }
    where
      -- at the place of v, and elsewhere
      put : (u : ℕ) → u < length before → ((u ≡ v → ⊥) → get_or mid u 0 ≡ get_or next u 0) → get_or (set mid v (get_or next v 0)) u 0 ≡ get_or next u 0
      put u h d = elim (ℕ_discrete u v) [
        | yes q ↦ (ap (λ (k : ℕ). get_or (set mid v (get_or next v 0)) k 0) q ∙ get_or-set_same mid v (get_or next v 0) 0 (omega (arith, s.kept)) ∙ ap (λ (k : ℕ). get_or next k 0) (sym q))
        | no q ↦ (get_or-set_other mid v u (get_or next v 0) 0 q ∙ d q)
      ]

-- ---- the next clock begins with what is held then; input ports keep their 0

module _ (N : Net) (wf : WellFormed N) (t : ℕ) {members ws next ws' : List ℕ} (m : members ≡ row_members State N) (long : size N ≤ length ws) (w : WordsAt N t ws)
    (n : (v : ℕ) → v < size N → row_test State N v ≡ true → get_or next v 0 ≡ next_word N ws v) (s : Renewed members next ws ws' (length members)) where
  held : (v : ℕ) → v < size N → holds_word (element_at N v) ≡ true → get_or ws' v 0 ≡ zero_word N (t + 1) v
  held v h e =
      let r = listed N m v h e in
      ap (λ (u : ℕ). get_or ws' u 0) (sym r.2) ∙ s.given r.0 r.1 (omega (arith, r.2)) ∙ ap (λ (u : ℕ). get_or next u 0) r.2 ∙ n v h e ∙ next_word_lem N wf t ws w v h e

  kept : (v : ℕ) → v < size N → (is_input (element_at N v) || holds_word (element_at N v)) ≡ true → holds_word (element_at N v) ≡ false → get_or ws' v 0 ≡ zero_word N (t + 1) v
  kept v h e o =
      let input = no_holder (element_at N v) o e in
      s.others v (λ i l q. false≢true (sym o ∙ (state_member N m l (sym q)).on)) ∙ w v h ∙ sym (input_word N wf t v h input) ∙ input_word N wf (t + 1) v h input

  pub loads_next : Loads N (t + 1) ws'
  loads_next = record { at = λ v h e. ⊎_elim (held v h) (kept v h e) (true_or_false (holds_word (element_at N v))) }
