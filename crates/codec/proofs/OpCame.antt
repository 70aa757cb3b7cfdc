-- The operation of a gate's content, as it came. Assumes nothing.
use Rattle.std.specs.Prelude.{◌≡◌, refl, Bool, true, ◌&&◌, ◌||◌, List, length, drop, eqb, Option, Some, None}
use Rattle.std.proofs.Common.{ap, sym, ◌∙◌, arith, drop_of_length-le, ne_eqb}
use Prim.Native.Nat.{ℕ, ◌+◌, ◌*◌, ◌^◌, ◌≤◌, ◌<◌}
use Rattle.std.proofs.Math.ListN.{get_or}
use Rattle.lists.specs.Paths.{pick}
use Rattle.lists.proofs.Paths.{arms_lt, arms_eq, off_eq}
use Rattle.lists.proofs.BelowLaws.{T→true, and_left, and_right, eqb-true}
use Rattle.lists.proofs.TableRule.{at}
use Rattle.words.specs.Words.{word, operand_counts}
use Rattle.words.specs.Gates.{operands_of}
use Rattle.words.specs.declared.Op.{Op}
use Rattle.words.specs.declared.Op.TheVariants.{Constant, Not, And, Or, Xor, Add, Subtract, Equal, Less, Choose, Part, Join}
use Rattle.netlist.specs.Checks.{OpFits}
use Rattle.netlist.specs.NodeField.{extra, gate_length, plain_op, op_read, op_number, op_extra}
use Rattle.codec.specs.Bytes.{Bytes}
use Rattle.codec.proofs.WordsLaws.{last_word, last_byte}

pub record OpCame (c : List ℕ) (o : Op) : Type 0 where
  pub number : op_number o ≡ get_or c 2 0
  pub room : 3 + 2 * operands_of o ≤ length c
  pub after : op_extra o ≡ drop (3 + 2 * operands_of o) c
  pub fits : OpFits o (get_or c 1 0)

pub data OpTold (c : List ℕ) : Option Op → Type 0 where
  refused : OpTold c None
  told : {o : Op} → OpCame c o → OpTold c (Some o)

-- ---- the operations that are their number alone

-- at each number but 0 and 10, and its count of sources
plain_right : ℕ → ℕ → Bool
plain_right k x = eqb k 0 || eqb k 10 || (eqb (length (op_extra (plain_op k))) 0 && (eqb (op_number (plain_op k)) k && eqb (operands_of (plain_op k)) x))

record Plain (k : ℕ) (o : Op) : Type 0 where
  bare : length (op_extra o) ≡ 0
  number : op_number o ≡ k
  count : operands_of o ≡ get_or operand_counts k 0

plain : (k : ℕ) → k < 12 → (k ≡ 0 → ⊥) → (k ≡ 10 → ⊥) → Plain k (plain_op k)
unfolding plain_right
plain k h a b =
    let o : Op = plain_op k in
    let bare : Bool = eqb (length (op_extra o)) 0 in
    let named : Bool = eqb (op_number o) k in
    let counted : Bool = eqb (operands_of o) (get_or operand_counts k 0) in
    let right : plain_right k (get_or operand_counts k 0) ≡ true = T→true (at plain_right operand_counts tt k h) in
    let all : (bare && (named && counted)) ≡ true = simp (ne_eqb _ _ a, ne_eqb _ _ b) at right in
    let two = and_right bare (named && counted) all in
    record { bare = eqb-true (and_left bare (named && counted) all); number = eqb-true (and_left named counted two); count = eqb-true (and_right named counted two) }

bare-fits : (o : Op) (w : ℕ) → length (op_extra o) ≡ 0 → OpFits o w
bare-fits (Constant v) w e = absurd (omega arith)
bare-fits Not w e = tt
bare-fits And w e = tt
bare-fits Or w e = tt
bare-fits Xor w e = tt
bare-fits Add w e = tt
bare-fits Subtract w e = tt
bare-fits Equal w e = tt
bare-fits Less w e = tt
bare-fits Choose w e = tt
bare-fits (Part b) w e = tt
bare-fits Join w e = tt

-- ---- every operation

constant_length : gate_length 0 ≡ 5
unfolding pick
constant_length = refl

part_length : gate_length 10 ≡ 6
unfolding pick
part_length = refl

module _ (c : List ℕ) (b : Bytes c) where
  plain_came : get_or c 2 0 < 12 → (get_or c 2 0 ≡ 0 → ⊥) → (get_or c 2 0 ≡ 10 → ⊥) → length c ≡ gate_length (get_or c 2 0) → OpCame c (plain_op (get_or c 2 0))
  plain_came h n0 n10 e =
      let o : Op = plain_op (get_or c 2 0) in
      let p : Plain (get_or c 2 0) o = plain (get_or c 2 0) h n0 n10 in
      let none : 0 ≡ extra (get_or c 2 0) = off_eq _ _ _ _ n0 (off_eq _ _ _ _ n10 refl) in
      let full : length c ≡ 3 + 2 * operands_of o = omega arith in
      record {
        number = p.number;
        room = omega arith;
        after = drop_of_length-le (op_extra o) {i = 0} (omega arith) ∙ sym (drop_of_length-le c {i = 3 + 2 * operands_of o} (omega arith));
        fits = bare-fits o (get_or c 1 0) p.bare;
      }

  constant_came : get_or c 2 0 ≡ 0 → length c ≡ gate_length (get_or c 2 0) → word c 3 < 2 ^ get_or c 1 0 → OpCame c (Constant (word c 3))
  constant_came k e f =
      let full : length c ≡ 5 = e ∙ ap gate_length k ∙ constant_length in
      record { number = sym k; room = omega arith; after = last_word c b 3 full; fits = f }

  part_came : get_or c 2 0 ≡ 10 → length c ≡ gate_length (get_or c 2 0) → OpCame c (Part (get_or c 5 0))
  part_came k e =
      let full : length c ≡ 6 = e ∙ ap gate_length k ∙ part_length in
      record { number = sym k; room = omega arith; after = last_byte c 5 full; fits = tt }

  pub op_came : OpTold c (op_read c)
  unfolding op_read
  op_came =
      arms_lt P _ _ (length c) 3 (λ _. refused) (λ _.
      arms_lt P _ _ 11 k (λ _. refused) (λ h.
      arms_eq P _ _ (length c) (gate_length k)
      (λ e. arms_eq P _ _ k 0
      (λ z. arms_lt P _ _ (word c 3) (2 ^ get_or c 1 0) (λ f. told {o = Constant (word c 3)} (constant_came z e f)) (λ _. refused))
      (λ n0. arms_eq P _ _ k 10
      (λ z. told {o = Part (get_or c 5 0)} (part_came z e))
      (λ n10. told {o = plain_op k} (plain_came (omega arith) n0 n10 e))))
      (λ _. refused)))
    where
      k : ℕ
      k = get_or c 2 0

      P : Option Op → Type 0
      P = OpTold c
