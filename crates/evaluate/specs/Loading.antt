-- A row is loaded word by word, over plain values: q says which numbers have a word in it, w how wide. Assumes nothing.
use Rattle.std.specs.Prelude.{◌≡◌, refl, ◌⊎◌, Bool, true, false, List, ℕ, suc, ◌+◌, ◌*◌, ◌/◌, ◌^◌, ◌≤◌, ◌<◌, length, get_or, set, eqb}
use Rattle.std.proofs.Common.{sym, ap, subst, ◌∙◌, inl, inr, ⊎_elim, true≢false, not-suc-le-zero, arith, get_or-set_same, get_or-set_other, ext_get_or, eq-eqb, ne_eqb}
use Rattle.lists.specs.Lists.{select, count_below}
use Rattle.lists.proofs.BelowLaws.{true_or_false, and_right, lt-suc_split, get_or_listed, count_below-lt, count_below_same}
use Rattle.lists.proofs.ListsLaws.{length-select}
use Rattle.words.specs.Words.{word}
use Rattle.behaviour.specs.Runs.{fitting}
use Rattle.behaviour.proofs.Fitting.{fitting-select, fitting_at}
use Rattle.behaviour.specs.Service.{words_in, fitting_bytes}
use Rattle.behaviour.proofs.WordBytes.{length_words_in}
use Rattle.lists.specs.SelectLaws.{Member}
use Rattle.lists.proofs.SelectLaws.{some_member, select_at}

-- the numbers before the i-th that passes have their words, and no other number's word is touched
pub record Loading (q : ℕ → Bool) (w : ℕ → ℕ) (b before after : List ℕ) (i : ℕ) : Type 0 where
  pub each : (u : ℕ) → q u ≡ true → count_below q u < i → get_or after u 0 ≡ word b (2 * count_below q u)
  pub fit : (u : ℕ) → q u ≡ true → count_below q u < i → get_or after u 0 < 2 ^ w u
  pub others : (u : ℕ) → q u ≡ false → get_or after u 0 ≡ get_or before u 0

pub load_none : (q : ℕ → Bool) (w : ℕ → ℕ) (b l : List ℕ) → Loading q w b l l 0
load_none q w b l = record { each = λ u y h. absurd (not-suc-le-zero h); fit = λ u y h. absurd (not-suc-le-zero h); others = λ u y. refl }

module _ (q : ℕ → Bool) (w : ℕ → ℕ) (n : ℕ) (b : List ℕ) where
  -- number v is the i-th, and x its word
  module _ {i v x : ℕ} (m : Member q n i v) (is : x ≡ word b (2 * i)) where
    at_word : x ≡ word b (2 * count_below q v)
    at_word = is ∙ ap (λ (k : ℕ). word b (2 * k)) (sym m.place)

    pub load_take : {before after : List ℕ} → Loading q w b before after i → x < 2 ^ w v → v < length after → Loading q w b before (set after v x) (i + 1)
    load_take {before} {after} t f r = record {
      each = λ u y l. ⊎_elim (λ k. get_or-set_other after v u x 0 (λ e. omega (arith, k, ap (count_below q) e, m.place)) ∙ t.each u y k)
          (λ e. ap (λ (k : ℕ). get_or (set after v x) k 0) e ∙ get_or-set_same after v x 0 r ∙ at_word ∙ ap (λ (k : ℕ). word b (2 * count_below q k)) (sym e)) (last u y l);
      fit = λ u y l. ⊎_elim (λ k. rw (get_or-set_other after v u x 0 (λ e. omega (arith, k, ap (count_below q) e, m.place))) (t.fit u y k))
          (λ e. subst (λ (k : ℕ). get_or (set after v x) k 0 < 2 ^ w k) (sym e) (rw (get_or-set_same after v x 0 r) f)) (last u y l);
      others = λ u y. get_or-set_other after v u x 0 (λ e. true≢false (sym m.on ∙ ap q (sym e) ∙ y)) ∙ t.others u y;
    }
      where
        last : (u : ℕ) → q u ≡ true → count_below q u < i + 1 → (count_below q u < i) ⊎ (u ≡ v)
        last u y l = ⊎_elim (λ k. inl k) (λ e. inr (count_below_same q u v y m.on (e ∙ sym m.place))) (lt-suc_split (let k : count_below q u < suc i = omega arith in k))

    -- it does not fit
    pub load_wide : length b ≡ 2 * count_below q n → 2 ^ w v ≤ x → fitting_bytes (select q w n) b ≡ false
    load_wide h f = ⊎_elim (λ t. absurd (omega (arith, fits t, at_word, there))) (λ t. t) (true_or_false (fitting_bytes (select q w n) b))
      where
        there : get_or (words_in b) (count_below q v) 0 ≡ word b (2 * count_below q v)
        there = get_or_listed (λ j. word b (2 * j)) (length b / 2) (count_below q v) 0 (omega (arith, count_below-lt q v n m.on m.low))

        fits : fitting_bytes (select q w n) b ≡ true → get_or (words_in b) (count_below q v) 0 < 2 ^ w v
        fits t = fitting_at q w n (words_in b) (and_right (eqb (length b) (2 * length (select q w n))) (fitting (select q w n) (words_in b)) t) v m.low m.on

  -- by the row's length
  pub load_other : (length b ≡ 2 * count_below q n → ⊥) → fitting_bytes (select q w n) b ≡ false
  load_other d = rw (ne_eqb (length b) (2 * length (select q w n)) (λ e. d (omega (arith, length-select q w n))))

  module _ (h : length b ≡ 2 * count_below q n) {before after : List ℕ} (t : Loading q w b before after (count_below q n)) where
    pub load_words : select q (λ v. get_or after v 0) n ≡ words_in b
    load_words =
        ext_get_or 0 (select q (λ v. get_or after v 0) n) (words_in b) (omega (arith, length_words_in b, length-select q (λ v. get_or after v 0) n)) (λ i l. at i (omega (arith, length-select q (λ v. get_or after v 0) n)))
      where
        at : (i : ℕ) → i < count_below q n → get_or (select q (λ v. get_or after v 0) n) i 0 ≡ get_or (words_in b) i 0
        at i l =
            let r = some_member q n i l in
            let p = r.1.place in
            select_at (λ v. get_or after v 0) 0 r.1 ∙ t.each r.0 r.1.on (omega arith)
            ∙ ap (λ (k : ℕ). word b (2 * k)) p ∙ sym (get_or_listed (λ j. word b (2 * j)) (length b / 2) i 0 (omega arith))

    pub load_fits : fitting_bytes (select q w n) b ≡ true
    load_fits =
        rw (eq-eqb (length b) (2 * length (select q w n)) (omega (arith, length-select q w n)))
        (subst (λ (l : List ℕ). fitting (select q w n) l ≡ true) load_words
        (fitting-select q w n (λ v. get_or after v 0) (λ v l y. t.fit v y (count_below-lt q v n y l))))
