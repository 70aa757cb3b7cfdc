-- A list of words is written word by word, two bytes each: h says which word a number has. Assumes nothing.
use Rattle.std.specs.Prelude.{◌≡◌, refl, List, [], ◌∷◌, ◌++◌, map, ℕ, ◌+◌, ◌*◌, ◌/◌, ◌%◌, ◌≤◌, ◌<◌, length, get_or, set, take, drop}
use Rattle.std.proofs.Common.{sym, ap, ap₂, ◌∙◌, append-nil, add-one, arith, length-append, length-drop, take_at, take-suc, drop-drop, length-take-le}
use Rattle.std.proofs.lemmas.List.{length-map}
use Rattle.std.proofs.lemmas.List.Edits.{sets-eq}
use Rattle.std.proofs.Math.Seq.{take-length, drop-append-add, drop-length}
use Rattle.lists.proofs.BelowLaws.{get_or_map-lt}
use Rattle.lists.proofs.ListsLaws.{concat_map-append}
use Rattle.words.specs.Words.{bytes}
use Rattle.behaviour.specs.Service.{bytes_of}
use Rattle.behaviour.proofs.WordBytes.{length-bytes}

-- the words of the first i numbers of l are written; there is room for those of all
pub record Filling (h : ℕ → ℕ) (l before after : List ℕ) (i : ℕ) : Type 0 where
  pub room : length before ≡ 2 * length l
  pub low : i ≤ length l
  pub holds : after ≡ bytes_of (take i (map h l)) ++ drop (2 * i) before

pub fill_none : {h : ℕ → ℕ} {l b : List ℕ} → length b ≡ 2 * length l → Filling h l b b 0
fill_none e = record { room = e; low = omega arith; holds = refl }

module _ {h : ℕ → ℕ} {l before after : List ℕ} {i : ℕ} (t : Filling h l before after i) where
  done : length (bytes_of (take i (map h l))) ≡ 2 * i
  done = omega (arith, length-bytes (take i (map h l)), length-take-le i (map h l) (omega (arith, length-map l h)))

  pub fill_kept : length after ≡ length before
  fill_kept = ap length t.holds ∙ length-append (bytes_of (take i (map h l))) (drop (2 * i) before) ∙ omega (arith, done, length-drop (2 * i) before)

  pub fill_all : i ≡ length l → after ≡ bytes_of (map h l)
  fill_all e =
      let n : i ≡ length (map h l) = omega (arith, length-map l h) in
      let m : 2 * i ≡ length before = omega arith in
      t.holds ∙ ap₂ (λ (k j : ℕ). bytes_of (take k (map h l)) ++ drop j before) n m
      ∙ ap₂ (λ (x y : List ℕ). bytes_of x ++ y) (take-length (map h l)) (drop-length before) ∙ append-nil (bytes_of (map h l))

  module _ (more : i < length l) where
    pub fill_room : 2 * i + 1 < length after
    fill_room = omega (arith, fill_kept)

    front : take (2 * i) after ≡ bytes_of (take i (map h l))
    front = ap (take (2 * i)) t.holds ∙ take_at (bytes_of (take i (map h l))) (drop (2 * i) before) (2 * i) done

    back : drop (2 * i + 2) after ≡ drop (2 * i + 2) before
    back =
        ap (drop (2 * i + 2)) t.holds ∙ ap (λ (k : ℕ). drop (k + 2) (bytes_of (take i (map h l)) ++ drop (2 * i) before)) (sym done)
        ∙ drop-append-add (bytes_of (take i (map h l))) (drop (2 * i) before) 2 ∙ drop-drop 2 (2 * i) before

    -- number v is the i-th, and x its word
    pub fill_put : {v : ℕ} → v ≡ get_or l i 0 → (x : ℕ) → x ≡ h v → Filling h l before (set (set after (2 * i) (x / 256)) (2 * i + 1) (x % 256)) (i + 1)
    fill_put at x is = record {
      room = t.room;
      low = omega arith;
      holds =
          ap (λ (k : ℕ). set (set after (2 * i) (x / 256)) k (x % 256)) (add-one (2 * i))
          ∙ sets-eq (bytes x) after (2 * i) (let r = fill_room in omega arith)
          ∙ ap₂ (λ (a b : List ℕ). a ++ bytes x ++ b) front back
          ∙ ap₂ (λ (a : List ℕ) (k : ℕ). a ++ drop k before) (sym next) (let e : 2 * i + 2 ≡ 2 * (i + 1) = omega arith in e);
    }
      where
        word_is : get_or (map h l) i 0 ≡ x
        word_is = get_or_map-lt h l i 0 0 more ∙ sym (is ∙ ap h at)

        next : bytes_of (take (i + 1) (map h l)) ≡ bytes_of (take i (map h l)) ++ bytes x
        next =
            ap (λ (k : ℕ). bytes_of (take k (map h l))) (add-one i) ∙ ap bytes_of (take-suc (map h l) i 0 (omega (arith, length-map l h)))
            ∙ concat_map-append bytes (take i (map h l)) (get_or (map h l) i 0 ∷ []) ∙ ap (λ (k : ℕ). bytes_of (take i (map h l)) ++ bytes k) word_is
