-- What a well made table field holds, and what its table answers at each address. Assumes nothing.
use Rattle.std.specs.Prelude.{◌≡◌, Bool, true, false, List, ◌++◌, map, ℕ, ◌+◌, ◌-◌, ◌*◌, ◌%◌, ◌^◌, ◌≤◌, ◌<◌, length, replicate}
use Rattle.std.proofs.Common.{sym, ap, subst, ◌∙◌, arith, length-append, get_or-append-add}
use Rattle.std.proofs.lemmas.Bool.{false≢true}
use Rattle.std.proofs.Math.ListN.{get_or, get_or-append}
use Rattle.std.proofs.lemmas.List.{length-replicate, get_or-replicate}
use Rattle.lists.specs.Lists.{below}
use Rattle.lists.specs.Paths.{pick}
use Rattle.lists.proofs.Paths.{arms_lt, arms_eq}
use Rattle.lists.proofs.BelowLaws.{length_listed, get_or_listed}
use Rattle.netlist.specs.Net.{spelled}
use Rattle.netlist.specs.TableField.{word_at, words_fit, words_good, filled_count, filled_good, body_good, table_good, body_read, table_read}

-- behind address bits and width, by tag
pub data BodyFacts (c : List ℕ) : ℕ → Type 0 where
  words : length c ≡ 2 + 2 * 2 ^ get_or c 0 0 → words_fit (2 ^ get_or c 0 0) c ≡ true → BodyFacts c 2
  filled : length c ≡ 4 + 2 * filled_count c → 1 ≤ filled_count c → filled_count c ≤ 2 ^ get_or c 0 0 → words_fit (1 + filled_count c) c ≡ true → BodyFacts c 5

pub record TableFacts (tag : ℕ) (c : List ℕ) : Type 0 where
  pub long : 2 ≤ length c
  pub bits_low : 1 ≤ get_or c 0 0
  pub bits_high : get_or c 0 0 ≤ 10
  pub wide_low : 1 ≤ get_or c 1 0
  pub wide_high : get_or c 1 0 ≤ 16
  pub body : BodyFacts c tag

body_facts : (tag : ℕ) (c : List ℕ) → body_good tag c ≡ true → BodyFacts c tag
unfolding body_good words_good filled_good
body_facts tag c =
    arms_eq P _ _ tag 2
    (λ e. arms_eq P _ _ (length c) (2 + 2 * 2 ^ get_or c 0 0) (λ f g. subst (BodyFacts c) (sym e) (words f g)) (λ _. no_way))
    (λ _. arms_eq P _ _ tag 5
    (λ e. arms_lt P _ _ (length c) 6 (λ _. no_way) (λ some.
    arms_lt P _ _ (4 + 2 * 2 ^ get_or c 0 0) (length c) (λ _. no_way) (λ few.
    arms_eq P _ _ (length c % 2) 0 (λ even g. subst (BodyFacts c) (sym e) (filled (omega arith) (omega arith) (omega arith) g)) (λ _. no_way))))
    (λ _. no_way))
  where
    P : Bool → Type 0
    P b = b ≡ true → BodyFacts c tag

    no_way : false ≡ true → BodyFacts c tag
    no_way e = absurd (false≢true e)

pub table_facts : (tag : ℕ) (c : List ℕ) → table_good tag c ≡ true → TableFacts tag c
unfolding table_good
table_facts tag c =
    arms_lt P _ _ (length c) 2 (λ _. no_way) (λ l.
    arms_eq P _ _ (get_or c 0 0) 0 (λ _. no_way) (λ a.
    arms_lt P _ _ 10 (get_or c 0 0) (λ _. no_way) (λ b.
    arms_eq P _ _ (get_or c 1 0) 0 (λ _. no_way) (λ d.
    arms_lt P _ _ 16 (get_or c 1 0) (λ _. no_way) (λ e g.
    record { long = l; bits_low = omega arith; bits_high = b; wide_low = omega arith; wide_high = e; body = body_facts tag c g })))))
  where
    P : Bool → Type 0
    P b = b ≡ true → TableFacts tag c

    no_way : false ≡ true → TableFacts tag c
    no_way e = absurd (false≢true e)

-- ---- a list and a fill word

module _ (f : ℕ) (l : List ℕ) (n a : ℕ) where
  pub filled-length : length l ≤ n → length (l ++ replicate (n - length l) f) ≡ n
  filled-length h = simp (length-append, length-replicate) (omega arith)

  pub filled-stored : a < length l → get_or (l ++ replicate (n - length l) f) a 0 ≡ get_or l a 0
  filled-stored h = get_or-append l (replicate (n - length l) f) 0 a h

  pub filled_past : length l ≤ a → a < n → get_or (l ++ replicate (n - length l) f) a 0 ≡ f
  filled_past h k =
      let e : length l + (a - length l) ≡ a = omega arith in
      ap (λ (j : ℕ). get_or (l ++ replicate (n - length l) f) j 0) (sym e)
      ∙ get_or-append-add l (replicate (n - length l) f) (a - length l) 0
      ∙ get_or-replicate (n - length l) (a - length l) f 0 (omega arith)

-- ---- T-02: the read of a table promises a word for every address below 2^bits

module _ (c : List ℕ) (a : ℕ) (low : a < 2 ^ get_or c 0 0) where
  -- of tag 2
  pub words-answer : get_or (spelled (table_read 2 c)) a 0 ≡ word_at c a
  unfolding spelled table_read body_read pick
  words-answer = get_or_listed (word_at c) (2 ^ get_or c 0 0) a 0 low

  -- of tag 5, at a stored word and past the last one
  pub stored_answer : a < filled_count c → get_or (spelled (table_read 5 c)) a 0 ≡ word_at c (1 + a)
  unfolding spelled table_read body_read pick
  stored_answer h =
      filled-stored (word_at c 0) (map (λ k. word_at c (1 + k)) (below (filled_count c))) (2 ^ get_or c 0 0) a (rw (length_listed (λ k. word_at c (1 + k)) (filled_count c)) h)
      ∙ get_or_listed (λ k. word_at c (1 + k)) (filled_count c) a 0 h

  pub fill_answer : filled_count c ≤ a → get_or (spelled (table_read 5 c)) a 0 ≡ word_at c 0
  unfolding spelled table_read body_read pick
  fill_answer h =
      filled_past (word_at c 0) (map (λ k. word_at c (1 + k)) (below (filled_count c))) (2 ^ get_or c 0 0) a (rw (length_listed (λ k. word_at c (1 + k)) (filled_count c)) h) low
