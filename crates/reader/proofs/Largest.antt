-- All words of a list fit where the largest does. Assumes nothing.
use mathlib.Core.Path.{◌≡◌, sym, ap, ap₂, ◌∙◌}
use mathlib.Core.Logic.{⊎_elim}
use mathlib.Core.Bool.{Bool, true, ◌&&◌}
use mathlib.Core.List.{List}
use Prim.Native.Nat.{ℕ, zero, suc, ◌+◌, ◌-◌, ◌*◌, ◌/◌, ◌^◌, ◌<◌, max}
use native.Mathlib.Omega.{arith}
use lib.Pow.{pow_pos}
use lib.ListN.{length, get_or, take, drop, length-drop}
use lib.Seq.{get_or-drop, take_all}
use lib.Dec.{ltb}
use borrow.Author.Tests.{lt-ltb, le-ltb}
use Rattle.lists.specs.Lists.{largest, all_below}
use Rattle.lists.proofs.BelowLaws.{lt_or_le, all_below_intro}
use Rattle.words.specs.Words.{fits, word}
use Rattle.netlist.specs.TableField.{word_at, words_fit}

max-below : (a b m : ℕ) → ltb (max a b) m ≡ (ltb b m && ltb a m)
max-below a b m =
    ⊎_elim
    (λ l. ⊎_elim (λ k. lt-ltb (max a b) m (omega arith) ∙ sym (ap₂ ◌&&◌ (lt-ltb b m l) (lt-ltb a m k))) (λ k. le-ltb (max a b) m (omega arith) ∙ sym (ap₂ ◌&&◌ (lt-ltb b m l) (le-ltb a m k))) (lt_or_le a m))
    (λ l. le-ltb (max a b) m (omega arith) ∙ sym (ap (λ (t : Bool). t && ltb a m) (le-ltb b m l)))
    (lt_or_le b m)

pub largest-fits : (w : ℕ) (g : ℕ → ℕ) (n : ℕ) → fits (largest n g) w ≡ all_below n (λ a. fits (g a) w)
largest-fits w g zero = lt-ltb 0 (2 ^ w) (pow_pos w)
largest-fits w g (suc n) = max-below (largest n g) (g n) (2 ^ w) ∙ ap (λ (t : Bool). fits (g n) w && t) (largest-fits w g n)

-- a word of two bytes fits 16 bits
pub all_fit_16 : (l : List ℕ) (n w : ℕ) → w ≡ 16 → ((i : ℕ) → get_or l i 0 < 256) → true ≡ all_below n (λ a. fits (word l (2 * a)) w)
all_fit_16 l n w e b = sym (all_below_intro n (λ a. fits (word l (2 * a)) w) (λ a _. ap (fits (word l (2 * a))) e ∙ lt-ltb (word l (2 * a)) 65536 (omega (arith, b (2 * a), b (2 * a + 1)))))

-- the words behind a table's two first bytes
behind : (c : List ℕ) (a : ℕ) → word (drop 2 c) (2 * a) ≡ word_at c a
behind c a =
    let next : 2 + (2 * a + 1) ≡ 2 + 2 * a + 1 = omega arith in
    ap₂ (λ (x y : ℕ). x * 256 + y) (get_or-drop 2 c (2 * a) 0) (get_or-drop 2 c (2 * a + 1) 0 ∙ ap (λ (k : ℕ). get_or c k 0) next)

pub behind_fit : (c : List ℕ) (n : ℕ) → (length c - 2) / 2 ≡ n
    → all_below (length (take (length c - 2) (drop 2 c)) / 2) (λ a. fits (word (take (length c - 2) (drop 2 c)) (2 * a)) (get_or c 1 0)) ≡ words_fit n c
behind_fit c n e =
    let w = get_or c 1 0 in
    let whole : take (length c - 2) (drop 2 c) ≡ drop 2 c = take_all (length c - 2) (drop 2 c) (omega (arith, length-drop 2 c)) in
    let half : length (drop 2 c) / 2 ≡ n = ap (λ (k : ℕ). k / 2) (length-drop 2 c) ∙ e in
    ap (λ (l : List ℕ). all_below (length l / 2) (λ a. fits (word l (2 * a)) w)) whole ∙ (λ i. all_below (half i) (λ a. fits (behind c a i) w))
