-- A gate's word from its operands' words. Assumes nothing.
use Rattle.std.specs.Prelude.{◌≡◌, [], ◌∷◌, ℕ, get_or}
use Rattle.std.proofs.Math.Path.{refl}
use Rattle.words.specs.declared.Op.{Op}
use Rattle.words.specs.declared.Op.TheVariants.{Constant, Not, And, Or, Xor, Add, Subtract, Equal, Less, Choose, Part, Join}
use Rattle.words.specs.Gates.{operate}

-- operand p's word, of the three
abbrev pub three_words : ℕ → ℕ → ℕ → ℕ → ℕ
three_words a b c p = get_or (a ∷ b ∷ c ∷ []) p 0

-- the word of a gate of width w on the words a, b and c; v is the width of its second source
abbrev pub gate_word : Op → ℕ → ℕ → ℕ → ℕ → ℕ → ℕ
gate_word o w v a b c = operate o w (λ p. v) (three_words a b c)

-- an operation asks for no other width and for no further operand
module _ (w : ℕ) (ws d : ℕ → ℕ) where
  pub gate_word-operate : (o : Op) → gate_word o w (ws 1) (d 0) (d 1) (d 2) ≡ operate o w ws d
  unfolding operate
  gate_word-operate (Constant c) = refl
  gate_word-operate Not = refl
  gate_word-operate And = refl
  gate_word-operate Or = refl
  gate_word-operate Xor = refl
  gate_word-operate Add = refl
  gate_word-operate Subtract = refl
  gate_word-operate Equal = refl
  gate_word-operate Less = refl
  gate_word-operate Choose = refl
  gate_word-operate (Part b) = refl
  gate_word-operate Join = refl
