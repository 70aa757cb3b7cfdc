-- Words that are wanted of a netlist which runs from reset with all inputs 0: place k wants the word of node `wanted k` at clock `clocks k`, or none where that is
-- 65,534 or 65,535. Assumes nothing.
use Rattle.std.specs.Prelude.{◌≡◌, refl, List, ℕ, suc, ◌+◌, ◌≤◌, ◌<◌, length, get_or, set}
use Rattle.std.proofs.Common.{sym, ap, subst, ◌∙◌, ⊎_elim, not-suc-le-zero, arith, length-set, get_or-set_same, get_or-set_other}
use Rattle.std.proofs.Math.Decide.{ℕ_discrete}
use Rattle.lists.proofs.BelowLaws.{lt-suc_split}
use Rattle.netlist.specs.Net.{Net, size}
use Rattle.behaviour.specs.Run.{zero_word}
use Rattle.first_clocks.specs.Queue.{TakenTo}

-- a place that wants a word wants it of a node
abbrev pub OfNodes : Net → List ℕ → List ℕ → Type 0
OfNodes N clocks wanted = (k : ℕ) → k < length clocks → get_or clocks k 0 < 65534 → get_or wanted k 0 < size N

-- every word that is wanted is taken, and nothing else has changed
pub record Taken (N : Net) (clocks wanted before after : List ℕ) : Type 0 where
  pub given : (k : ℕ) → k < length clocks → get_or clocks k 0 < 65534 → get_or after k 0 ≡ zero_word N (get_or clocks k 0) (get_or wanted k 0)
  pub others : (k : ℕ) → 65534 ≤ get_or clocks k 0 → get_or after k 0 ≡ get_or before k 0

-- the words of clock t stand in a list
abbrev pub WordsAt : Net → ℕ → List ℕ → Type 0
WordsAt N t words = (v : ℕ) → v < size N → get_or words v 0 ≡ zero_word N t v

-- the words of some clock do
abbrev pub OfClock : Net → List ℕ → Type 0
OfClock N words = (t : ℕ) × WordsAt N t words

-- ---- every place that wants a word first has the number of a node that has it when it is due

-- the word that place k wants is the one that node u has at clock `dues k`
abbrev pub HeldAt : Net → List ℕ → List ℕ → List ℕ → ℕ → ℕ → Type 0
HeldAt N clocks wanted dues k u = (u < size N) × (zero_word N (get_or clocks k 0) (get_or wanted k 0) ≡ zero_word N (get_or dues k 0) u)

module _ (N : Net) (clocks wanted before : List ℕ) where
  -- the places from k on; all words are due before so many clocks, and no place of the others counts as due
  pub record NamedFrom (dues names : List ℕ) (limit k : ℕ) : Type 0 where
    pub kept : length names ≡ length before
    pub named : (j : ℕ) → k ≤ j → j < length clocks → get_or clocks j 0 < 65534 → HeldAt N clocks wanted dues j (get_or names j 0)
    pub early : (j : ℕ) → k ≤ j → j < length clocks → get_or clocks j 0 < 65534 → get_or dues j 0 < limit
    pub some : (j : ℕ) → j < 3072 → get_or dues j 0 < 65535 → (k ≤ j) × (j < length clocks) × (get_or clocks j 0 < 65534)
    pub others : (j : ℕ) → 65534 ≤ get_or clocks j 0 → get_or names j 0 ≡ get_or before j 0

  pub named_none : {dues : List ℕ} → ((j : ℕ) → j < 3072 → get_or dues j 0 ≡ 65535) → NamedFrom dues before 0 (length clocks)
  named_none e = record { kept = refl; named = λ j a b. absurd (omega arith); early = λ j a b. absurd (omega arith); some = λ j l q. absurd (omega (arith, e j l)); others = λ j h. refl }

  module _ {dues names : List ℕ} {limit k : ℕ} (s : NamedFrom dues names limit (k + 1)) where
    -- place k wants no word
    pub named_idle : 65534 ≤ get_or clocks k 0 → NamedFrom dues names limit k
    named_idle h = record {
      kept = s.kept;
      named = λ j a b q. s.named j (after j a q) b q;
      early = λ j a b q. s.early j (after j a q) b q;
      some = λ j l q. let r = s.some j l q in (omega (arith, r.0), r.1, r.2);
      others = s.others;
    }
      where
        after : (j : ℕ) → k ≤ j → get_or clocks j 0 < 65534 → k + 1 ≤ j
        after j a q = elim (ℕ_discrete j k) [
          | yes e ↦ absurd (omega (arith, ap (λ (i : ℕ). get_or clocks i 0) e))
          | no e ↦ omega arith
        ]

    -- place k wants the word that u has at clock d
    module _ {u d more : ℕ} (wants : get_or clocks k 0 < 65534) (inside : u < size N) (same : zero_word N (get_or clocks k 0) (get_or wanted k 0) ≡ zero_word N d u)
        (l : limit ≤ more) (due : d < more) (low : k < length clocks) (a : k < length dues) (b : k < length before) where
      pub named_more : NamedFrom (set dues k d) (set names k u) more k
      named_more = record {
        kept = length-set names k u ∙ s.kept;
        named = λ j h i q. elim (ℕ_discrete j k) [
          | yes e ↦ subst (λ (x : ℕ). HeldAt N clocks wanted (set dues k d) x (get_or (set names k u) x 0)) (sym e)
              (subst (HeldAt N clocks wanted (set dues k d) k) (sym (get_or-set_same names k u 0 (omega (arith, s.kept)))) (inside, same ∙ ap (λ (t : ℕ). zero_word N t u) (sym (get_or-set_same dues k d 0 a))))
          | no e ↦ (let old = s.named j (omega arith) i q in
              subst (HeldAt N clocks wanted (set dues k d) j) (sym (get_or-set_other names k j u 0 e))
              (old.0, old.1 ∙ ap (λ (t : ℕ). zero_word N t (get_or names j 0)) (sym (get_or-set_other dues k j d 0 e))))
        ];
        early = λ j h i q. elim (ℕ_discrete j k) [
          | yes e ↦ omega (arith, ap (λ (x : ℕ). get_or (set dues k d) x 0) e, get_or-set_same dues k d 0 a)
          | no e ↦ omega (arith, s.early j (omega arith) i q, get_or-set_other dues k j d 0 e)
        ];
        some = λ j h q. elim (ℕ_discrete j k) [
          | yes e ↦ (omega arith, omega arith, omega (arith, ap (λ (x : ℕ). get_or clocks x 0) e))
          | no e ↦ (let r = s.some j h (omega (arith, get_or-set_other dues k j d 0 e)) in (omega (arith, r.0), r.1, r.2))
        ];
        others = λ j h. get_or-set_other names k j u 0 (λ e. omega (arith, ap (λ (x : ℕ). get_or clocks x 0) e)) ∙ s.others j h;
      }

-- ---- clock by clock

-- a place whose word is due at some clock wants one
abbrev pub Asked : List ℕ → List ℕ → Type 0
Asked clocks dues = (k : ℕ) → k < 3072 → get_or dues k 0 < 65535 → get_or clocks k 0 < 65534

module _ (N : Net) (clocks wanted dues before : List ℕ) where
  -- what is due before clock t is taken, and what is due later is named as before
  pub record TakenBefore (after : List ℕ) (t : ℕ) : Type 0 where
    pub kept : length after ≡ length before
    pub given : (k : ℕ) → k < length clocks → get_or clocks k 0 < 65534 → get_or dues k 0 < t → get_or after k 0 ≡ zero_word N (get_or clocks k 0) (get_or wanted k 0)
    pub named : (k : ℕ) → k < length clocks → get_or clocks k 0 < 65534 → t ≤ get_or dues k 0 → HeldAt N clocks wanted dues k (get_or after k 0)
    pub others : (k : ℕ) → 65534 ≤ get_or clocks k 0 → get_or after k 0 ≡ get_or before k 0

  pub taken_none : {names : List ℕ} {limit : ℕ} → NamedFrom N clocks wanted before dues names limit 0 → TakenBefore names 0
  taken_none s = record { kept = s.kept; given = λ k l q h. absurd (not-suc-le-zero h); named = λ k l q h. s.named k (omega arith) l q; others = s.others }

  pub taken_more : {mid after words : List ℕ} {t : ℕ} → length clocks ≤ 3072 → Asked clocks dues → t < 65535
      → TakenBefore mid t → WordsAt N t words → TakenTo dues t words mid after 3072 → TakenBefore after (t + 1)
  taken_more {mid} {after} {words} {t} few some small a w b = record {
    kept = b.kept ∙ a.kept;
    given = λ k l q h. ⊎_elim (λ y. b.others k (λ i d. omega arith) ∙ a.given k l q y) (λ y. b.given k (omega arith) y ∙ right k y (a.named k l q (omega arith)))
        (lt-suc_split (let z : get_or dues k 0 < suc t = omega arith in z));
    named = λ k l q h. subst (HeldAt N clocks wanted dues k) (sym (b.others k (λ i d. omega arith))) (a.named k l q (omega arith));
    others = λ k h. b.others k (λ i d. omega (arith, some k i (omega arith))) ∙ a.others k h;
  }
    where
      right : (k : ℕ) → get_or dues k 0 ≡ t → HeldAt N clocks wanted dues k (get_or mid k 0) → get_or words (get_or mid k 0) 0 ≡ zero_word N (get_or clocks k 0) (get_or wanted k 0)
      right k y held = w (get_or mid k 0) held.0 ∙ ap (λ (s : ℕ). zero_word N s (get_or mid k 0)) (sym y) ∙ sym held.1

  pub taken_all : {names after : List ℕ} {limit t : ℕ} → NamedFrom N clocks wanted before dues names limit 0 → limit ≤ t → TakenBefore after t → Taken N clocks wanted before after
  taken_all s l a = record { given = λ k h q. a.given k h q (omega (arith, s.early k (omega arith) h q)); others = a.others }
