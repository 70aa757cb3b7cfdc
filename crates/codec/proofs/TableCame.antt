-- A well made table content is the content of the table that is read from it, and that table is within the format's limits. Assumes nothing.
use Rattle.std.specs.Prelude.{◌≡◌, refl, true, List, ◌∷◌, map, length, drop}
use Rattle.std.proofs.Common.{ap, ◌∙◌, arith, drop-drop, ltb-true}
use Rattle.std.proofs.Math.Logic.{⊎_elim}
use Prim.Native.Nat.{ℕ, zero, suc, ◌+◌, ◌^◌, ◌<◌, ◌≤◌}
use Rattle.std.proofs.Math.ListN.{get_or}
use Rattle.lists.specs.Lists.{up_from, below, concat_map}
use Rattle.lists.specs.Paths.{pick}
use Rattle.lists.proofs.BelowLaws.{lt_or_le, all_below_elim, length_listed, get_or_listed}
use Rattle.words.specs.Words.{fits, bytes}
use Rattle.netlist.specs.Net.{Body, spelled_in, spelled}
use Rattle.netlist.specs.Checks.{BodyFits, TableFits}
use Rattle.netlist.specs.TableField.{word_at, words_fit, filled_count, table_good, body_read, table_read, body_tag, body_words, stored, stored_from, table_content}
use Rattle.netlist.proofs.TableLaws.{BodyFacts, words, filled, TableFacts, table_facts, filled-length, filled-stored, filled_past}
use Rattle.codec.specs.Bytes.{Bytes}
use Rattle.codec.proofs.WordsLaws.{last_words, first_two}

-- ---- as it came

-- the tag is that of what is read
pub tag_as_it_came : (tag : ℕ) (c : List ℕ) → table_good tag c ≡ true → body_tag (table_read tag c).body ≡ tag
unfolding table_read body_read pick
tag_as_it_came tag c good = by_body tag (table_facts tag c good).body
  where
    by_body : (k : ℕ) → BodyFacts c k → body_tag (body_read k c) ≡ k
    by_body k (words e f) = refl
    by_body k (filled e some few f) = refl

-- a fill word and the words behind it are one list of words
one_later : (g : ℕ → ℕ) (i k : ℕ) → map (λ a. g (1 + a)) (up_from i k) ≡ map g (up_from (suc i) k)
one_later g i zero = refl
one_later g i (suc k) = let e : 1 + i ≡ suc i = omega arith in rw (e, one_later g (suc i) k)

body_came : (c : List ℕ) → Bytes c → (tag : ℕ) → BodyFacts c tag → concat_map bytes (body_words (body_read tag c)) ≡ drop 2 c
unfolding body_read pick
body_came c b tag (words e f) = last_words c b 2 (2 ^ get_or c 0 0) e
body_came c b tag (filled e some few f) =
    ap (λ (l : List ℕ). concat_map bytes (word_at c 0 ∷ l)) (one_later (word_at c) 0 (filled_count c)) ∙ last_words c b 2 (suc (filled_count c)) (omega arith)

-- THE THEOREM
pub table_as_it_came : (tag : ℕ) (c : List ℕ) → Bytes c → table_good tag c ≡ true → table_content (table_read tag c) ≡ c
unfolding table_content table_read
table_as_it_came tag c b good =
    let facts : TableFacts tag c = table_facts tag c good in
    ap (λ (l : List ℕ). get_or c 0 0 ∷ get_or c 1 0 ∷ l) (body_came c b tag facts.body) ∙ first_two c facts.long

-- and so are the stored words
pub stored_as_they_came : (tag : ℕ) (c : List ℕ) → Bytes c → table_good tag c ≡ true → concat_map bytes (stored (table_read tag c).body) ≡ drop (stored_from tag) c
unfolding table_read body_read pick
stored_as_they_came tag c b good = by_body tag (table_facts tag c good).body
  where
    by_body : (k : ℕ) → BodyFacts c k → concat_map bytes (stored (body_read k c)) ≡ drop (stored_from k) c
    by_body k (words e f) = body_came c b 2 (words e f)
    by_body k (filled e some few f) = ap (drop 2) (body_came c b 5 (filled e some few f)) ∙ drop-drop 2 2 c

-- ---- within the limits

record Fit (c : List ℕ) (x : Body) : Type 0 where
  all : length (spelled_in (2 ^ get_or c 0 0) x) ≡ 2 ^ get_or c 0 0
  each : (a : ℕ) → a < length (spelled_in (2 ^ get_or c 0 0) x) → get_or (spelled_in (2 ^ get_or c 0 0) x) a 0 < 2 ^ get_or c 1 0
  more : BodyFits x (2 ^ get_or c 1 0)

module _ (c : List ℕ) where
  word_fits : (n : ℕ) → words_fit n c ≡ true → (a : ℕ) → a < n → word_at c a < 2 ^ get_or c 1 0
  word_fits n f a h = ltb-true _ _ (all_below_elim n (λ k. fits (word_at c k) (get_or c 1 0)) f a h)

  body_fit : (tag : ℕ) → BodyFacts c tag → Fit c (body_read tag c)
  unfolding body_read pick
  body_fit tag (words e f) =
      let n = 2 ^ get_or c 0 0 in
      record {
        all = length_listed (word_at c) n;
        each = λ a h. let k : a < n = rw (length_listed (word_at c) n) at h in rw (get_or_listed (word_at c) n a 0 k) (word_fits n f a k);
        more = tt;
      }
  body_fit tag (filled e some few f) =
      record {
        all = filled-length fill l n 0 short;
        each = λ a h. ⊎_elim
            (λ k. rw (filled-stored fill l n a k) (later_fits a (rw long at k)))
            (λ k. rw (filled_past fill l n a k (rw (filled-length fill l n 0 short) at h)) fill_fits)
            (lt_or_le a (length l));
        more = (rw long some, fill_fits);
      }
    where
      n : ℕ
      n = 2 ^ get_or c 0 0

      fill : ℕ
      fill = word_at c 0

      later : ℕ → ℕ
      later a = word_at c (1 + a)

      l : List ℕ
      l = map later (below (filled_count c))

      long : length l ≡ filled_count c
      long = length_listed later (filled_count c)

      short : length l ≤ n
      short = rw long few

      fill_fits : fill < 2 ^ get_or c 1 0
      fill_fits = word_fits (1 + filled_count c) f 0 (omega arith)

      later_fits : (a : ℕ) → a < filled_count c → get_or l a 0 < 2 ^ get_or c 1 0
      later_fits a h = rw (get_or_listed later (filled_count c) a 0 h) (word_fits (1 + filled_count c) f (1 + a) (omega arith))

pub table_fits : (tag : ℕ) (c : List ℕ) → table_good tag c ≡ true → TableFits (table_read tag c)
unfolding table_read spelled
table_fits tag c good =
    let facts : TableFacts tag c = table_facts tag c good in
    let fit : Fit c (body_read tag c) = body_fit c tag facts.body in
    record {
      bits_low = facts.bits_low;
      bits_high = facts.bits_high;
      wide_low = facts.wide_low;
      wide_high = facts.wide_high;
      all_words = fit.all;
      each_fits = fit.each;
      body_fits = fit.more;
    }
