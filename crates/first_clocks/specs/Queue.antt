-- The queue of the places that want a word, by the clock at which it is due: chains of places, one for each slot. Assumes nothing.
use Rattle.std.specs.Prelude.{◌≡◌, refl, List, ℕ, ◌+◌, ◌%◌, ◌≤◌, ◌<◌, length, get_or, set, replicate}
use Rattle.std.proofs.Common.{sym, ap, subst, ◌∙◌, ⊎_elim, not-suc-le-zero, zero-lt-suc, mod-lt, arith, length-set, get_or-set_same, get_or-set_other, below_more}
use Rattle.std.proofs.lemmas.List.{get_or-replicate}
use Rattle.lists.proofs.BelowLaws.{lt_or_le}
use Rattle.lists.specs.Sections.{section}
use Rattle.lists.proofs.Sections.{section-length, section_replicate, section-read, section-put, section_before, section-after}
use Rattle.lists.specs.Linked.{From, LinkedFrom}
use Rattle.lists.proofs.Linked.{linked_none, linked_past, linked_more, linked_as}

-- the sections of its area: the first place of each slot, the next place behind each, and when the word of each is due
abbrev pub slots_in : List ℕ → List ℕ
slots_in l = section 0 1024 l

abbrev pub nexts_in : List ℕ → List ℕ
nexts_in l = section 1024 3072 l

abbrev pub dues_in : List ℕ → List ℕ
dues_in l = section 4096 3072 l

-- place j is in the chain of slot b: its word is due at a clock of that slot
abbrev pub InSlot : List ℕ → ℕ → ℕ → Type 0
InSlot dues j b = (get_or dues j 0 < 65535) × (get_or dues j 0 % 1024 ≡ b)

-- the places from k on are linked
abbrev pub Queued : List ℕ → ℕ → Type 0
Queued queue k = LinkedFrom (InSlot (dues_in queue)) 3072 (slots_in queue) (nexts_in queue) k

-- and none of them is past a list of this length
abbrev pub QueuedWithin : List ℕ → ℕ → Type 0
QueuedWithin queue n = (k : ℕ) → k < 3072 → get_or (dues_in queue) k 0 < 65535 → k < n

-- no place is, in an area with 65,535 all over
pub dues_none : (j : ℕ) → j < 3072 → get_or (dues_in (replicate 7168 65535)) j 0 ≡ 65535
dues_none j h = ap (λ (l : List ℕ). get_or l j 0) (section_replicate 4096 3072 7168 65535 (omega arith)) ∙ get_or-replicate {A = ℕ} 3072 j 65535 0 h

pub queued_none : (k : ℕ) → Queued (replicate 7168 65535) k
queued_none k =
    let none : List ℕ = replicate 7168 65535 in
    subst (λ (l : List ℕ). LinkedFrom (InSlot (dues_in none)) 3072 l (nexts_in none) k) (sym (section_replicate 0 1024 7168 65535 (omega arith)))
    (linked_none (InSlot (dues_in none)) 3072 1024 65535 (nexts_in none) k (omega arith) (λ j b a h e. omega (arith, dues_none j h, e.0)))

-- a place is put first in the slot of its clock
pub record Enqueued (before : List ℕ) (due k : ℕ) (after : List ℕ) : Type 0 where
  pub slots : slots_in after ≡ set (slots_in before) (due % 1024) k
  pub nexts : nexts_in after ≡ set (nexts_in before) k (get_or (slots_in before) (due % 1024) 0)
  pub dues : dues_in after ≡ set (dues_in before) k due

-- as the area is written
pub enqueued : (l : List ℕ) {m : List ℕ} {due k slot : ℕ} → length l ≡ 7168 → k < 3072 → slot ≡ due % 1024
    → m ≡ set (set (set l (1024 + k) (get_or l slot 0)) (4096 + k) due) slot k → Enqueued l due k m
enqueued l {m} {due} {k} {slot} long low is p = record {
  slots = ap slots_in p ∙ ap (λ (i : ℕ). slots_in (set two i k)) at ∙ section-put 0 1024 two slot k small
      ∙ ap (λ (y : List ℕ). set y slot k) (section-after 0 1024 one (4096 + k) due (omega arith) ∙ section-after 0 1024 l (1024 + k) (get_or l slot 0) (omega arith)) ∙ ap (λ (i : ℕ). set (slots_in l) i k) is;
  nexts = ap nexts_in p ∙ section_before 1024 3072 two slot k small ∙ section-after 1024 3072 one (4096 + k) due (omega arith) ∙ section-put 1024 3072 l k (get_or l slot 0) low
      ∙ ap (set (nexts_in l) k) (ap (λ (i : ℕ). get_or l i 0) at ∙ sym (section-read 0 1024 l slot small) ∙ ap (λ (i : ℕ). get_or (slots_in l) i 0) is);
  dues = ap dues_in p ∙ section_before 4096 3072 two slot k (omega arith) ∙ section-put 4096 3072 one k due low ∙ ap (λ (y : List ℕ). set y k due) (section_before 4096 3072 l (1024 + k) (get_or l slot 0) (omega arith));
}
  where
    one : List ℕ
    one = set l (1024 + k) (get_or l slot 0)

    two : List ℕ
    two = set one (4096 + k) due

    at : slot ≡ 0 + slot
    at = omega arith

    small : slot < 1024
    small = omega (arith, is, mod-lt due (zero-lt-suc 1023))

module _ (queue : List ℕ) {k : ℕ} (long : length queue ≡ 7168) (low : k < 3072) (t : Queued queue (k + 1)) where
  -- past a place that wants no word
  pub queued_past : (get_or (dues_in queue) k 0 < 65535 → ⊥) → Queued queue k
  queued_past d = linked_past (InSlot (dues_in queue)) 3072 low t (λ b i. d i.0)

  pub queued_more : {due : ℕ} {after : List ℕ} → due < 65535 → Enqueued queue due k after → Queued after k
  queued_more {due} {after} d e =
      let same : (j : ℕ) → k + 1 ≤ j → get_or (dues_in after) j 0 ≡ get_or (dues_in queue) j 0 = λ j h. ap (λ (l : List ℕ). get_or l j 0) e.dues ∙ get_or-set_other (dues_in queue) k j due 0 (λ q. omega arith) in
      let own : get_or (dues_in after) k 0 ≡ due = ap (λ (l : List ℕ). get_or l k 0) e.dues ∙ get_or-set_same (dues_in queue) k due 0 (omega (arith, section-length 4096 3072 queue (omega arith))) in
      let before : LinkedFrom (InSlot (dues_in after)) 3072 (slots_in queue) (nexts_in queue) (k + 1) =
      linked_as (λ j b h i. subst (λ (x : ℕ). (x < 65535) × (x % 1024 ≡ b)) (sym (same j h)) i) (λ j b h i. subst (λ (x : ℕ). (x < 65535) × (x % 1024 ≡ b)) (same j h) i) t in
      subst (λ (l : List ℕ). LinkedFrom (InSlot (dues_in after)) 3072 l (nexts_in after) k) (sym e.slots)
      (subst (λ (l : List ℕ). LinkedFrom (InSlot (dues_in after)) 3072 (set (slots_in queue) (due % 1024) k) l k) (sym e.nexts)
      (linked_more (InSlot (dues_in after)) 3072 low before (due % 1024) (omega (arith, own), ap (λ (x : ℕ). x % 1024) own) (λ b i. sym i.1 ∙ ap (λ (x : ℕ). x % 1024) own)
      (omega (arith, section-length 1024 3072 queue (omega arith)))))

-- ---- the words of clock t are taken, each over the number of the node that has it

module _ (dues : List ℕ) (t : ℕ) (words before : List ℕ) where
  -- the first n places are looked at
  pub record TakenTo (after : List ℕ) (n : ℕ) : Type 0 where
    pub kept : length after ≡ length before
    pub given : (k : ℕ) → k < n → get_or dues k 0 ≡ t → get_or after k 0 ≡ get_or words (get_or before k 0) 0
    pub others : (k : ℕ) → (k < n → get_or dues k 0 ≡ t → ⊥) → get_or after k 0 ≡ get_or before k 0

  pub look_none : TakenTo before 0
  look_none = record { kept = refl; given = λ k l. absurd (not-suc-le-zero l); others = λ k h. refl }

  module _ {mid : List ℕ} {n : ℕ} (s : TakenTo mid n) where
    pub look_more : (x : ℕ) → get_or dues n 0 ≡ t → x ≡ get_or words (get_or mid n 0) 0 → n < length before → TakenTo (set mid n x) (n + 1)
    look_more x d e l = record {
      kept = length-set mid n x ∙ s.kept;
      given = below_more (λ (k : ℕ). get_or dues k 0 ≡ t → get_or (set mid n x) k 0 ≡ get_or words (get_or before k 0) 0) n
          (λ k h q. get_or-set_other mid n k x 0 (λ i. omega arith) ∙ s.given k h q)
          (λ q. get_or-set_same mid n x 0 (omega (arith, s.kept)) ∙ e ∙ ap (λ (u : ℕ). get_or words u 0) (s.others n (λ i. absurd (omega arith))));
      others = λ k h. get_or-set_other mid n k x 0 (λ i. h (omega arith) (ap (λ (j : ℕ). get_or dues j 0) i ∙ d)) ∙ s.others k (λ i. h (omega arith));
    }

    -- past places that are not due
    pub look_past : (m : ℕ) → n ≤ m → ((k : ℕ) → n ≤ k → k < m → get_or dues k 0 ≡ t → ⊥) → TakenTo mid m
    look_past m l d = record {
      kept = s.kept;
      given = λ k h q. ⊎_elim (λ i. s.given k i q) (λ i. absurd (d k i h q)) (lt_or_le k n);
      others = λ k h. s.others k (λ i q. h (omega arith) q);
    }

-- along the chain of a slot: k is the next place of it, and all before it are looked at; or there is none, and all are
pub record AlongSlot (queue : List ℕ) (t : ℕ) (words before after : List ℕ) (k : ℕ) : Type 0 where
  pub here : k < 3072 → InSlot (dues_in queue) k (t % 1024) × TakenTo (dues_in queue) t words before after k
  pub done : 3072 ≤ k → TakenTo (dues_in queue) t words before after 3072

module _ (queue : List ℕ) {t : ℕ} (small : t < 65535) {words before mid : List ℕ} {i : ℕ} (low : i ≤ 3072) (s : TakenTo (dues_in queue) t words before mid i) where
  pub along_slot : {r : ℕ} → From (InSlot (dues_in queue)) 3072 (t % 1024) i r → AlongSlot queue t words before mid r
  along_slot {r} f = record {
    here = λ l. ((f.here l).1, look_past (dues_in queue) t words before s r (f.here l).0 (λ k h j q. f.none k h j (omega arith) (due k q)));
    done = λ l. look_past (dues_in queue) t words before s 3072 low (λ k h j q. f.none k h (omega arith) j (due k q));
  }
    where
      due : (k : ℕ) → get_or (dues_in queue) k 0 ≡ t → InSlot (dues_in queue) k (t % 1024)
      due k q = (omega (arith, q), ap (λ (x : ℕ). x % 1024) q)
