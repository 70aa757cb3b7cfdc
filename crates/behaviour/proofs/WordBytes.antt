-- Words as bytes, two each, and back: nothing is lost, and the tests on bytes say what the tests on words say. Assumes nothing.
use Rattle.std.specs.Prelude.{◌≡◌, refl, Bool, true, false, ◌&&◌, List, [], ◌∷◌, ◌++◌, ℕ, zero, suc, ◌+◌, ◌*◌, ◌/◌, ◌%◌, ◌<◌, length, get_or, set, eqb}
use Rattle.std.proofs.Common.{sym, ap, ap₂, ◌∙◌, ⊎_elim, append-nil, not-suc-le-zero, le_of_suc-le-suc, arith, ext_get_or, get_or-append-add, eq-eqb, ne_eqb}
use Rattle.lists.proofs.BelowLaws.{true_or_false, eqb-true, eqb_differ, length_listed, get_or_listed}
use Rattle.words.specs.Words.{word, put_word, bytes}
use Rattle.behaviour.specs.Runs.{fitting}
use Rattle.behaviour.specs.Service.{bytes_of, words_in, room_for, fitting_bytes}

-- ---- there and back

pub length-bytes : (ws : List ℕ) → length (bytes_of ws) ≡ 2 * length ws
length-bytes [] = refl
length-bytes (v ∷ ws) = omega (arith, length-bytes ws)

pub length_words_in : (b : List ℕ) → length (words_in b) ≡ length b / 2
length_words_in b = length_listed (λ i. word b (2 * i)) (length b / 2)

word-behind : (v : ℕ) (b : List ℕ) (i : ℕ) → word (bytes v ++ b) (2 + i) ≡ word b i
word-behind v b i =
    let k : 2 + i + 1 ≡ 2 + (i + 1) = omega arith in
    ap₂ (λ (a b : ℕ). a * 256 + b) (get_or-append-add (bytes v) b i 0) (ap (λ (j : ℕ). get_or (bytes v ++ b) j 0) k ∙ get_or-append-add (bytes v) b (i + 1) 0)

-- words with more bytes behind them: each is read, and written, at its place
module _ (rest : List ℕ) where
  pub word_front : (ws : List ℕ) (i : ℕ) → i < length ws → word (bytes_of ws ++ rest) (2 * i) ≡ get_or ws i 0
  word_front [] i h = absurd (not-suc-le-zero h)
  word_front (v ∷ ws) zero h = omega arith
  word_front (v ∷ ws) (suc i) h =
      let k : 2 * suc i ≡ 2 + 2 * i = omega arith in
      ap (word (bytes_of (v ∷ ws) ++ rest)) k ∙ word-behind v (bytes_of ws ++ rest) (2 * i) ∙ word_front ws i (le_of_suc-le-suc h)

  pub put_front : (ws : List ℕ) (i w : ℕ) → i < length ws → put_word (bytes_of ws ++ rest) (2 * i) w ≡ bytes_of (set ws i w) ++ rest
  put_front [] i w h = absurd (not-suc-le-zero h)
  put_front (v ∷ ws) zero w h = refl
  put_front (v ∷ ws) (suc i) w h =
      let k : 2 * suc i ≡ suc (suc (2 * i)) = omega arith in
      let l : 2 * suc i + 1 ≡ suc (suc (2 * i + 1)) = omega arith in
      ap₂ (λ (a b : ℕ). set (set (bytes_of (v ∷ ws) ++ rest) a (w / 256)) b (w % 256)) k l
      ∙ ap (λ (b : List ℕ). v / 256 ∷ v % 256 ∷ b) (put_front ws i w (le_of_suc-le-suc h))

-- the words of the bytes of words
pub words_of_bytes : (ws : List ℕ) → words_in (bytes_of ws) ≡ ws
words_of_bytes ws =
    let n : length (words_in (bytes_of ws)) ≡ length ws = omega (arith, length_words_in (bytes_of ws), length-bytes ws) in
    ext_get_or 0 (words_in (bytes_of ws)) ws n (λ i h.
    let l : i < length ws = rw n at h in
    get_or_listed (λ j. word (bytes_of ws) (2 * j)) (length (bytes_of ws) / 2) i 0 (omega (arith, length-bytes ws)) ∙ ap (λ (b : List ℕ). word b (2 * i)) (sym (append-nil (bytes_of ws))) ∙ word_front [] ws i l)

-- ---- the tests

-- tests of equations that hold together
eqb_alike : (a b c d : ℕ) → (a ≡ b → c ≡ d) → (c ≡ d → a ≡ b) → eqb a b ≡ eqb c d
eqb_alike a b c d f g =
    ⊎_elim (λ t. t ∙ sym (eq-eqb c d (f (eqb-true t)))) (λ t. t ∙ sym (ne_eqb c d (λ e. eqb_differ t (g e)))) (true_or_false (eqb a b))

pub room_bytes : (ws ds : List ℕ) → room_for ws (bytes_of ds) ≡ eqb (length ds) (length ws)
room_bytes ws ds =
    eqb_alike (length (bytes_of ds)) (2 * length ws) (length ds) (length ws) (λ e. omega (arith, length-bytes ds)) (λ e. omega (arith, length-bytes ds))

and_again : (a b : Bool) → (a && (a && b)) ≡ (a && b)
and_again true b = refl
and_again false b = refl

pub fitting-bytes : (ws ds : List ℕ) → fitting_bytes ws (bytes_of ds) ≡ fitting ws ds
unfolding fitting
fitting-bytes ws ds = rw (words_of_bytes ds) (rw (room_bytes ws ds) (and_again (eqb (length ds) (length ws)) _))

-- a list of whole words
abbrev pub whole : List ℕ → Bool
whole b = eqb (length b) (2 * (length b / 2))

pub room_whole : (ws b : List ℕ) → whole b ≡ true → room_for ws b ≡ eqb (length (words_in b)) (length ws)
room_whole ws b t =
    let e : length b ≡ 2 * (length b / 2) = eqb-true t in
    eqb_alike (length b) (2 * length ws) (length (words_in b)) (length ws) (λ h. omega (arith, length_words_in b)) (λ h. omega (arith, length_words_in b))

pub fitting_whole : (ws b : List ℕ) → whole b ≡ true → fitting_bytes ws b ≡ fitting ws (words_in b)
unfolding fitting
fitting_whole ws b t = rw (room_whole ws b t) (and_again (eqb (length (words_in b)) (length ws)) _)

-- no list of ports has half a word
pub room_odd : (ws b : List ℕ) → whole b ≡ false → room_for ws b ≡ false
room_odd ws b t = ne_eqb (length b) (2 * length ws) (λ h. let e : length b ≡ 2 * (length b / 2) = omega arith in eqb_differ t e)
