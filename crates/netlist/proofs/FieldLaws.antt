-- A field's content, by its bytes in the file. Assumes nothing.
use Rattle.std.specs.Prelude.{◌≡◌, List, ℕ, ◌+◌, ◌*◌, ◌≤◌, ◌<◌, length, get_or, drop}
use Rattle.std.proofs.Common.{ap, ap₂, ◌∙◌, arith, length-drop, length-take-le, get_or-take, get_or-drop}
use Rattle.words.specs.Words.{word}
use Rattle.netlist.specs.Field.{length_at, field_end, content}

module _ (s : List ℕ) (at : ℕ) where
  -- of a field that ends within the file
  pub content-length : field_end s at ≤ length s → length (content s at) ≡ length_at s at
  content-length h = length-take-le (length_at s at) (drop (at + 3) s) (omega (arith, length-drop (at + 3) s))

  pub byte_in : (i : ℕ) → i < length_at s at → get_or (content s at) i 0 ≡ get_or s (at + 3 + i) 0
  byte_in i h = get_or-take (length_at s at) (drop (at + 3) s) i 0 h ∙ get_or-drop (at + 3) s i 0

  pub word_in : (i : ℕ) → i + 1 < length_at s at → word (content s at) i ≡ word s (at + 3 + i)
  word_in i h =
      let e : at + 3 + (i + 1) ≡ at + 3 + i + 1 = omega arith in
      ap₂ (λ (x y : ℕ). x * 256 + y) (byte_in i (omega arith)) (byte_in (i + 1) h ∙ ap (λ (k : ℕ). get_or s k 0) e)
