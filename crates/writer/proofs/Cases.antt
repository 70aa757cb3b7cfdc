-- The operations that the last arm of `put_gate` is for hold nothing but their number. Assumes nothing.
use Rattle.std.proofs.Common.{◌≡◌, refl, [], ℕ}
use Rattle.words.specs.declared.Op.{Op}
use Rattle.words.specs.declared.Op.TheVariants.{Constant, Not, And, Or, Xor, Add, Subtract, Equal, Less, Choose, Part, Join}
use Rattle.netlist.specs.NodeField.{op_extra}

-- all but a constant and a part
pub no_extra : (o : Op) → ((v : ℕ) → o ≡ Constant v → ⊥) → ((b : ℕ) → o ≡ Part b → ⊥) → op_extra o ≡ []
no_extra (Constant v) h l = absurd (h v refl)
no_extra Not h l = refl
no_extra And h l = refl
no_extra Or h l = refl
no_extra Xor h l = refl
no_extra Add h l = refl
no_extra Subtract h l = refl
no_extra Equal h l = refl
no_extra Less h l = refl
no_extra Choose h l = refl
no_extra (Part b) h l = absurd (l b refl)
no_extra Join h l = refl
