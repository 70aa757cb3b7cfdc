-- A table's content is well made, and reads back as the table. Assumes nothing.
use Rattle.std.specs.Prelude.{◌≡◌, true, List, [], ◌∷◌, map, ℕ, suc, ◌+◌, ◌-◌, ◌*◌, ◌%◌, ◌^◌, ◌<◌, get_or, replicate}
use Rattle.std.proofs.Math.Path.{ap, ap₂, sym}
use Rattle.std.proofs.Common.{◌∙◌, append-nil, arith, ext_get_or, lt-ltb}
use Rattle.std.proofs.Math.ListN.{length, length-append, length-replicate}
use Rattle.lists.specs.Lists.{below, concat_map}
use Rattle.lists.specs.Paths.{pick}
use Rattle.lists.proofs.Paths.{off_lt, on_eq, off_eq}
use Rattle.lists.proofs.BelowLaws.{all_below_intro, length_listed, get_or_listed}
use Rattle.words.specs.Words.{bytes, fits}
use Rattle.netlist.specs.Net.{Body, Words, WithFill, Table, spelled_in, spelled}
use Rattle.netlist.specs.Checks.{BodyFits, TableFits}
use Rattle.netlist.specs.TableField.{word_at, words_fit, words_good, filled_count, filled_good, body_good, table_good, body_read, table_read, body_tag, body_words, table_content}
use Rattle.codec.proofs.Within.{body_each}
use Rattle.codec.proofs.WordsLaws.{word_past, words_back, length-words}

-- ---- the words behind address bits and width

module _ (b w : ℕ) (l : List ℕ) where
  abbrev content : List ℕ
  content = b ∷ w ∷ concat_map bytes l

  word_read : (a : ℕ) → a < length l → word_at content a ≡ get_or l a 0
  word_read a h = rw (word_past (b ∷ w ∷ []) (concat_map bytes l) (2 * a), ← append-nil (concat_map bytes l)) (words_back l [] a h)

  words-read : (n : ℕ) → length l ≡ n → map (word_at content) (below n) ≡ l
  words-read n e =
      ext_get_or 0 _ l (length_listed (word_at content) n ∙ sym e) (λ i h.
      let k : i < n = rw (length_listed (word_at content) n) at h in
      get_or_listed (word_at content) n i 0 k ∙ word_read i (omega arith))

  words_fit_lem : ((a : ℕ) → a < length l → get_or l a 0 < 2 ^ w) → (n : ℕ) → n ≡ length l → words_fit n content ≡ true
  words_fit_lem fit n e = all_below_intro n (λ a. fits (word_at content a) w) (λ a h. lt-ltb (word_at content a) (2 ^ w) (rw (word_read a (omega arith)) (fit a (omega arith))))

module _ (b w f : ℕ) (l : List ℕ) where
  -- of tag 5, the words behind the fill word
  later_read : (n : ℕ) → length l ≡ n → map (λ a. word_at (content b w (f ∷ l)) (1 + a)) (below n) ≡ l
  later_read n e =
      ext_get_or 0 _ l (length_listed (λ a. word_at (content b w (f ∷ l)) (1 + a)) n ∙ sym e) (λ i h.
      let k : i < n = rw (length_listed (λ a. word_at (content b w (f ∷ l)) (1 + a)) n) at h in
      get_or_listed (λ a. word_at (content b w (f ∷ l)) (1 + a)) n i 0 k ∙ word_read b w (f ∷ l) (1 + i) (omega arith) ∙ ap (λ (j : ℕ). get_or (f ∷ l) j 0) (sym (one_more i)))
    where
      one_more : (i : ℕ) → suc i ≡ 1 + i
      one_more i = omega arith

  count_is : filled_count (content b w (f ∷ l)) ≡ length l
  count_is = omega (arith, length-words l)

-- ---- by the way the table is written

module _ (b w : ℕ) where
  body_good_lem : (x : Body) → length (spelled_in (2 ^ b) x) ≡ 2 ^ b → ((a : ℕ) → a < length (spelled_in (2 ^ b) x) → get_or (spelled_in (2 ^ b) x) a 0 < 2 ^ w) → BodyFits x (2 ^ w)
      → body_good (body_tag x) (content b w (body_words x)) ≡ true
  unfolding body_good words_good filled_good pick
  body_good_lem (Words l) e fit more = sym (on_eq _ _ (length (content b w l)) (2 + 2 * 2 ^ b) (omega (arith, length-words l)) (sym (words_fit_lem b w l fit (2 ^ b) (sym e))))
  body_good_lem (WithFill f l) e fit more =
      let both = length-append l (replicate (2 ^ b - length l) f) in
      let rest = length-replicate {A = ℕ} (2 ^ b - length l) f in
      let long = length-words l in
      let some = more.0 in
      sym
      (off_lt _ _ (length (content b w (f ∷ l))) 6 (omega arith)
      (off_lt _ _ (4 + 2 * 2 ^ b) (length (content b w (f ∷ l))) (omega arith)
      (on_eq _ _ (length (content b w (f ∷ l)) % 2) 0 (omega arith)
      (sym (words_fit_lem b w (f ∷ l) (body_each (2 ^ b) (2 ^ w) (WithFill f l) fit more) (1 + filled_count (content b w (f ∷ l))) (omega arith))))))

  body_back : (x : Body) → length (spelled_in (2 ^ b) x) ≡ 2 ^ b → body_read (body_tag x) (content b w (body_words x)) ≡ x
  unfolding body_read pick
  body_back (Words l) e = ap Words (words-read b w l (2 ^ b) e)
  body_back (WithFill f l) e = ap₂ WithFill (word_read b w (f ∷ l) 0 (omega arith)) (later_read b w f l (filled_count (content b w (f ∷ l))) (sym (count_is b w f l)))

pub table_good_lem : (t : Table) → TableFits t → table_good (body_tag t.body) (table_content t) ≡ true
unfolding table_content table_good spelled
table_good_lem t f =
    let c = content t.bits t.wide (body_words t.body) in
    sym
    (off_lt _ _ (length c) 2 (omega arith)
    (off_eq _ _ t.bits 0 (omega (arith, f.bits_low))
    (off_lt _ _ 10 t.bits f.bits_high
    (off_eq _ _ t.wide 0 (omega (arith, f.wide_low))
    (off_lt _ _ 16 t.wide f.wide_high
    (sym (body_good_lem t.bits t.wide t.body f.all_words f.each_fits f.body_fits)))))))

pub table-back : (t : Table) → TableFits t → table_read (body_tag t.body) (table_content t) ≡ t
unfolding table_read table_content spelled
table-back t f =
    let body = body_back t.bits t.wide t.body f.all_words in
    λ i. record { bits = t.bits; wide = t.wide; body = body i }
