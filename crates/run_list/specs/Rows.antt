-- Rows of bytes: how many there are, and whether each fits. Assumes nothing.
use Rattle.std.specs.Prelude.{◌≡◌, refl, Bool, true, false, List, ℕ, ◌+◌, ◌-◌, ◌*◌, ◌/◌, ◌%◌, ◌≤◌, ◌<◌, length, take, drop, eqb}
use Rattle.std.proofs.Common.{sym, ap, ap₂, ◌∙◌, true≢false, zero-mul, mul-suc, mul-le-mul_left, arith, eq-eqb, ne_eqb}
use Rattle.std.proofs.Math.Nat.{mul-mod_right, div-eq_of_eq-mul_right, div-add-mod}
use Rattle.lists.proofs.BelowLaws.{and_right, eqb-true, eqb_differ, all_below_elim, all_below_intro}
use Rattle.netlist.specs.Net.{Net}
use Rattle.behaviour.specs.Service.{fitting_bytes}
use Rattle.behaviour.specs.RunList.{row_bytes, byte_row, room_for_rows, fitting_rows}
use Rattle.evaluate.specs.Rows.{row_members, row_widths, row_count}
use Rattle.evaluate.specs.declared.Row.{Row}

-- ---- how many: n bytes in rows of r

module _ (n r clocks : ℕ) where
  pub no_row : r ≡ 0 → eqb n 0 ≡ eqb n (r * clocks)
  no_row e = ap (eqb n) (sym (ap (◌* clocks) e ∙ zero-mul clocks))

  pub whole_rows : (r ≡ 0 → ⊥) → n % r ≡ 0 → eqb (n / r) clocks ≡ eqb n (r * clocks)
  whole_rows some e = go (eqb (n / r) clocks) refl
    where
      back : n ≡ r * (n / r)
      back = omega (arith, div-add-mod n r)

      go : (b : Bool) → eqb (n / r) clocks ≡ b → b ≡ eqb n (r * clocks)
      go true t = sym (eq-eqb n (r * clocks) (back ∙ ap (r *◌) (eqb-true t)))
      go false t = sym (ne_eqb n (r * clocks) (λ h. eqb_differ t (div-eq_of_eq-mul_right (omega arith) h)))

  pub broken_row : (n % r ≡ 0 → ⊥) → false ≡ eqb n (r * clocks)
  broken_row d = sym (ne_eqb n (r * clocks) (λ h. d (ap (◌% r) h ∙ mul-mod_right r clocks)))

-- ---- each: rows of two bytes for each of the widths ws

module _ (ws b : List ℕ) (clocks : ℕ) where
  abbrev r : ℕ
  r = row_bytes ws

  -- the i-th row is inside, and is that part of the bytes
  pub row_inside : (i : ℕ) → i < clocks → length b ≡ row_bytes ws * clocks → row_bytes ws * i + row_bytes ws ≤ length b
  row_inside i h e = omega (arith, mul-suc r i, mul-le-mul_left r h)

  pub row_none : room_for_rows clocks ws b ≡ false → false ≡ fitting_rows clocks ws b
  row_none e = rw e

  pub row_fails : (i : ℕ) → i < clocks → fitting_bytes ws (byte_row (row_bytes ws) b i) ≡ false → false ≡ fitting_rows clocks ws b
  row_fails i h e = go (fitting_rows clocks ws b) refl
    where
      go : (t : Bool) → fitting_rows clocks ws b ≡ t → false ≡ t
      go true t = absurd (true≢false (sym (all_below_elim clocks _ (and_right (room_for_rows clocks ws b) _ t) i h) ∙ e))
      go false t = refl

  pub rows_fit : room_for_rows clocks ws b ≡ true → ((i : ℕ) → i < clocks → fitting_bytes ws (byte_row (row_bytes ws) b i) ≡ true) → true ≡ fitting_rows clocks ws b
  rows_fit e h = rw e (sym (all_below_intro clocks _ h))

-- a part of the bytes is a row
pub row_part : (r : ℕ) (b : List ℕ) (i : ℕ) {at e : ℕ} → at ≡ r * i → e ≡ at + r → take (e - at) (drop at b) ≡ byte_row r b i
row_part r b i {at} {e} a h = let k : e - at ≡ r = omega arith in ap₂ (λ (x y : ℕ). take x (drop y b)) k a

-- two bytes for each member of a row
pub row_length : (N : Net) (row : Row) {members : List ℕ} → members ≡ row_members row N → 2 * length members ≡ row_bytes (row_widths row N)
row_length N row e = ap (2 *◌) (row_count row N e)
