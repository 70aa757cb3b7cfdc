-- Laws of what specs/TableWords.antt defines. Assumes nothing.
use Rattle.std.specs.Prelude.{◌≡◌, refl, List, ℕ, ◌+◌, ◌-◌, ◌*◌, ◌/◌, ◌^◌, ◌≤◌, ◌<◌, length}
use Rattle.std.proofs.Common.{sym, subst, ◌∙◌, arith}
use Rattle.std.proofs.Math.Path.{ap}
use Rattle.std.proofs.Math.ListN.{get_or}
use Rattle.lists.specs.Paths.{pick}
use Rattle.words.specs.Words.{word}
use Rattle.netlist.specs.Net.{spelled}
use Rattle.netlist.specs.Field.{tag_at, length_at, content}
use Rattle.netlist.proofs.FieldLaws.{content-length, word_in}
use Rattle.netlist.specs.TableField.{word_at, filled_count, table_read, stored_from}
use Rattle.netlist.proofs.TableLaws.{TableFacts, BodyFacts, words, filled, table_facts, words-answer, stored_answer, fill_answer}
use Rattle.netlist.specs.ScanLaws.{TableAt}
use Rattle.netlist.specs.File.{table_in}
use Rattle.netlist.specs.TableWords.{Answers}

module _ (s : List ℕ) (at : ℕ) (t : TableAt s at) where
  abbrev c : List ℕ
  c = content s at

  facts : TableFacts (tag_at s at) c
  facts = table_facts (tag_at s at) c t.good

  long : length c ≡ length_at s at
  long = content-length s at t.inside

  -- the word behind k others, and behind address bits and width
  answers_at : (a k : ℕ) → 4 + 2 * k ≤ length_at s at → get_or (spelled (table_in s at)) a 0 ≡ word_at c k → {p : ℕ} → p ≡ at + 5 + 2 * k → Answers s at a p
  answers_at a k h e {p} q =
      let place : p ≡ at + 3 + (2 + 2 * k) = omega arith in
      record { inside = omega (arith, t.inside); is = ap (word s) place ∙ sym (word_in s at (2 + 2 * k) (omega arith)) ∙ sym e }

  by_tag : (a : ℕ) {tag w : ℕ} → tag_at s at ≡ tag → get_or (spelled (table_read tag c)) a 0 ≡ w → get_or (spelled (table_in s at)) a 0 ≡ w
  unfolding table_in
  by_tag a e h = ap (λ (k : ℕ). get_or (spelled (table_read k c)) a 0) e ∙ h

  -- the stored words begin within the content
  pub stored_inside : stored_from (tag_at s at) ≤ length_at s at
  unfolding pick
  stored_inside = told (tag_at s at) facts.body
    where
      told : (tag : ℕ) → BodyFacts c tag → stored_from tag ≤ length_at s at
      told tag (words f g) = omega (arith, long)
      told tag (filled f some few g) = omega (arith, long)

  -- the tags that a table's field has
  pub two_tags : (tag_at s at ≡ 2 → ⊥) → tag_at s at ≡ 5
  two_tags other = told (tag_at s at) other facts.body
    where
      told : (tag : ℕ) → (tag ≡ 2 → ⊥) → BodyFacts c tag → tag ≡ 5
      told tag n (words f g) = absurd (n refl)
      told tag n (filled f some few g) = refl

  -- tag 5: how many words are stored
  stored_count : filled_count c ≡ (length_at s at - 4) / 2
  stored_count = ap (λ (k : ℕ). (k - 4) / 2) long

  pub filled_long : tag_at s at ≡ 5 → length_at s at ≡ 4 + 2 * filled_count c
  filled_long e = told (subst (BodyFacts c) e facts.body)
    where
      told : BodyFacts c 5 → length_at s at ≡ 4 + 2 * filled_count c
      told (filled f some few g) = sym long ∙ f

  -- T-02: a word for every address below 2^bits. Tag 2: the word of the address. Tag 5: a stored word, and past the last one the fill word
  module _ (a : ℕ) (low : a < 2 ^ (table_in s at).bits) where
    below_all : a < 2 ^ get_or c 0 0
    unfolding table_in table_read
    below_all = low

    pub word_stands : tag_at s at ≡ 2 → Answers s at a (at + 5 + 2 * a)
    word_stands e = answers_at a a (room (subst (BodyFacts c) e facts.body)) (by_tag a e (words-answer c a below_all)) refl
      where
        room : BodyFacts c 2 → 4 + 2 * a ≤ length_at s at
        room (words f g) = omega (arith, long, below_all)

    pub stored_stands : tag_at s at ≡ 5 → a < (length_at s at - 4) / 2 → Answers s at a (at + 7 + 2 * a)
    stored_stands e h = answers_at a (1 + a) (omega (arith, filled_long e, stored_count)) (by_tag a e (stored_answer c a below_all (omega (arith, stored_count)))) (omega arith)

    pub fill_stands : tag_at s at ≡ 5 → (length_at s at - 4) / 2 ≤ a → Answers s at a (at + 5)
    fill_stands e h = answers_at a 0 (omega (arith, filled_long e)) (by_tag a e (fill_answer c a below_all (omega (arith, stored_count)))) (omega arith)
