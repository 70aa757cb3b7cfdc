-- A list of which a part was lent and filled anew. Assumes nothing.
use Rattle.std.specs.Prelude.{◌≡◌, List, ◌++◌, ℕ, ◌+◌, ◌-◌, ◌≤◌, ◌<◌, length, get_or, take, drop}
use Rattle.std.proofs.Common.{sym, ap, ◌∙◌, arith, length-take-le, get_or-take, get_or-drop, get_or-append-add}
use Rattle.std.proofs.Math.ListN.{get_or-append}

-- m stands in l from place k on
module _ (l m rest : List ℕ) (k : ℕ) (low : k ≤ length l) where
  abbrev filled : List ℕ
  filled = take k l ++ (m ++ rest)

  pub filled_front : (i : ℕ) → i < k → get_or filled i 0 ≡ get_or l i 0
  filled_front i h = get_or-append (take k l) (m ++ rest) 0 i (omega (arith, length-take-le k l low)) ∙ get_or-take k l i 0 h

  from : (i : ℕ) → get_or filled (k + i) 0 ≡ get_or (m ++ rest) i 0
  from i = ap (λ (j : ℕ). get_or filled (j + i) 0) (sym (length-take-le k l low)) ∙ get_or-append-add (take k l) (m ++ rest) i 0

  pub filled-part : (i : ℕ) → i < length m → get_or filled (k + i) 0 ≡ get_or m i 0
  filled-part i h = from i ∙ get_or-append m rest 0 i h

  -- and what comes behind it is what was there
  pub filled-behind : (n : ℕ) {w : ℕ} → rest ≡ drop n (drop k l) → length m ≡ n → k + n ≤ w → get_or filled w 0 ≡ get_or l w 0
  filled-behind n {w} e f h =
      let j : ℕ = w - (k + n) in
      let there : w ≡ k + (length m + j) = omega arith in
      ap (λ (i : ℕ). get_or filled i 0) there ∙ from (length m + j) ∙ get_or-append-add m rest j 0 ∙ ap (λ (y : List ℕ). get_or y j 0) e ∙ get_or-drop n (drop k l) j 0 ∙ get_or-drop k l (n + j) 0
      ∙ ap (λ (i : ℕ). get_or l i 0) (let back : k + (n + j) ≡ w = omega arith in back)
