-- Laws of what specs/Paths.antt defines. Assumes nothing.
use Rattle.std.specs.Prelude.{ℕ, ◌<◌, ◌≤◌, ◌≡◌, Bool, ltb, leb, eqb}
use Rattle.std.proofs.Common.{◌∙◌, ap, lt-ltb, le-ltb, le-leb, eq-eqb, ne_eqb, ltb-true, ltb-false, leb-true, leb-false, eqb-true}
use Rattle.std.proofs.Math.Path.{sym, refl}
use Rattle.std.proofs.Math.Bool.{true, false}
use Rattle.std.proofs.lemmas.Bool.{lt-leb, eqb-false}
use Rattle.lists.specs.Paths.{pick}

module _ {A : Type 0} (x y : A) {z : A} where
  pub on_true : (b : Bool) → b ≡ true → z ≡ x → z ≡ pick b x y
  unfolding pick
  on_true b p e = e ∙ sym (ap (λ (t : Bool). pick t x y) p)

  pub on_false : (b : Bool) → b ≡ false → z ≡ y → z ≡ pick b x y
  unfolding pick
  on_false b p e = e ∙ sym (ap (λ (t : Bool). pick t x y) p)

  pub on_lt : (a b : ℕ) → a < b → z ≡ x → z ≡ pick (ltb a b) x y
  on_lt a b h e = on_true (ltb a b) (lt-ltb a b h) e

  pub off_lt : (a b : ℕ) → b ≤ a → z ≡ y → z ≡ pick (ltb a b) x y
  off_lt a b h e = on_false (ltb a b) (le-ltb a b h) e

  pub on_le : (a b : ℕ) → a ≤ b → z ≡ x → z ≡ pick (leb a b) x y
  on_le a b h e = on_true (leb a b) (le-leb a b h) e

  pub off_le : (a b : ℕ) → b < a → z ≡ y → z ≡ pick (leb a b) x y
  off_le a b h e = on_false (leb a b) (lt-leb a b h) e

  pub on_eq : (a b : ℕ) → a ≡ b → z ≡ x → z ≡ pick (eqb a b) x y
  on_eq a b h e = on_true (eqb a b) (eq-eqb a b h) e

  pub off_eq : (a b : ℕ) → (a ≡ b → ⊥) → z ≡ y → z ≡ pick (eqb a b) x y
  off_eq a b h e = on_false (eqb a b) (ne_eqb a b h) e

-- what holds of both arms, each under its test, holds of the whole
module _ {A : Type 0} (P : A → Type 0) (x y : A) where
  pub arms : (b : Bool) → (b ≡ true → P x) → (b ≡ false → P y) → P (pick b x y)
  unfolding pick
  arms true f g = f refl
  arms false f g = g refl

  pub arms_lt : (a b : ℕ) → (a < b → P x) → (b ≤ a → P y) → P (pick (ltb a b) x y)
  arms_lt a b f g = arms (ltb a b) (λ h. f (ltb-true a b h)) (λ h. g (ltb-false a b h))

  pub arms_le : (a b : ℕ) → (a ≤ b → P x) → (b < a → P y) → P (pick (leb a b) x y)
  arms_le a b f g = arms (leb a b) (λ h. f (leb-true a b h)) (λ h. g (leb-false a b h))

  pub arms_eq : (a b : ℕ) → (a ≡ b → P x) → ((a ≡ b → ⊥) → P y) → P (pick (eqb a b) x y)
  arms_eq a b f g = arms (eqb a b) (λ h. f (eqb-true a b h)) (λ h. g (eqb-false a b h))
