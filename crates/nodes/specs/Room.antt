-- A content that names an element has room for the element's sources.
use Rattle.std.specs.Prelude.{ℕ, ◌+◌, ◌*◌, ◌≤◌, ◌<◌, ◌≡◌, List, Bool, true, cond, length, get_or, leb, eqb, Option, Some, None}
use Rattle.std.proofs.Common.{ap, subst, arith, leb→le, ne_eqb}
use Rattle.lists.proofs.Paths.{arms, arms_lt, arms_eq}
use Rattle.lists.proofs.TableRule.{at}
use Rattle.words.specs.Gates.{operands_of}
use Rattle.netlist.specs.Net.{rom, operands}
use Rattle.words.specs.Words.{operand_counts, word}
use Rattle.netlist.specs.NodeField.{op_read, plain_op, gate_length, kind_read, element_read, gate_read, first_source}
use Rattle.words.specs.declared.Op.{Op}
use Rattle.netlist.specs.declared.Element.{Element}
use Rattle.words.specs.declared.Op.TheVariants.{Constant, Part}
use Rattle.netlist.specs.declared.Element.TheVariants.{Input, Output, Register, Async, Clocked}

data OpRoom (n : ℕ) : Option Op → Type 0 where
  no_op : OpRoom n None
  an_op : {op : Op} → 3 + 2 * operands_of op ≤ n → OpRoom n (Some op)

data Room (n : ℕ) : Option Element → Type 0 where
  no_element : Room n None
  an_element : {e : Element} → first_source e + 2 * operands e ≤ n → Room n (Some e)

-- at each number but 0 and 10 the table has the operation's count
counted : ℕ → ℕ → Bool
counted k x = cond (eqb k 0) true (cond (eqb k 10) true (leb (operands_of (plain_op k)) x))

plain_count : (k : ℕ) → k < 12 → (k ≡ 0 → ⊥) → (k ≡ 10 → ⊥) → operands_of (plain_op k) ≤ get_or operand_counts k 0
unfolding counted
plain_count k h a b =
    leb→le _ _ (simp (ne_eqb _ _ a, ne_eqb _ _ b) at (at counted operand_counts tt k h))

op_room : (s : List ℕ) → OpRoom (length s) (op_read s)
unfolding op_read
op_room s =
    arms_lt P _ _ (length s) 3 (λ _. no_op) (λ h1.
    arms_lt P _ _ 11 k (λ _. no_op) (λ h2.
    arms_eq P _ _ (length s) (gate_length k)
    (λ h3. arms_eq P _ _ k 0
    (λ h4. arms P _ _ _ (λ _. an_op {op = Constant (word s 3)} (omega arith)) (λ _. no_op))
    (λ h4. arms_eq P _ _ k 10
    (λ h5. an_op {op = Part (get_or s 5 0)} (omega (arith, ap gate_length h5)))
    (λ h5. an_op {op = plain_op k} (omega (arith, plain_count k (omega arith) h4 h5)))))
    (λ _. no_op)))
  where
    k : ℕ
    k = get_or s 2 0

    P : Option Op → Type 0
    P = OpRoom (length s)

kind_room : (k : ℕ) (s : List ℕ) → Room (length s) (kind_read k s)
unfolding kind_read
kind_room k s =
    arms P _ _ _ (λ _. arms_eq P _ _ n 2 (λ h. an_element {e = Input} (omega arith)) (λ _. no_element)) (λ _.
    arms P _ _ _ (λ _. arms_eq P _ _ n 4 (λ h. an_element {e = Output} (omega arith)) (λ _. no_element)) (λ _.
    arms P _ _ _ (λ _. arms_eq P _ _ n 6 (λ h. arms P _ _ _ (λ _. an_element {e = Register (word s 4)} (omega arith)) (λ _. no_element)) (λ _. no_element)) (λ _.
    arms P _ _ _ (λ _. arms_eq P _ _ n 5 (λ h. an_element {e = Async (rom (get_or s 4 0))} (omega arith)) (λ _. no_element)) (λ _.
    arms P _ _ _ (λ _. arms_eq P _ _ n 7 (λ h. arms P _ _ _ (λ _. an_element {e = Clocked (rom (get_or s 4 0)) (word s 5)} (omega arith)) (λ _. no_element)) (λ _. no_element)) (λ _.
    arms P _ _ _ (λ _. gate (op_read s) (op_room s)) (λ _. no_element))))))
  where
    n : ℕ
    n = length s

    P : Option Element → Type 0
    P = Room (length s)

    gate : (o : Option Op) → OpRoom (length s) o → Room (length s) (gate_read o)
    gate None r = no_element
    gate (Some op) (an_op h) = an_element h

element_room : (s : List ℕ) → Room (length s) (element_read s)
unfolding element_read
element_room s =
    arms (Room (length s)) _ _ _ (λ _. no_element) (λ _.
    arms (Room (length s)) _ _ _ (λ _. no_element) (λ _.
    arms (Room (length s)) _ _ _ (λ _. no_element) (λ _. kind_room (get_or s 0 0) s)))

found : {n : ℕ} {e : Element} → Room n (Some e) → first_source e + 2 * operands e ≤ n
found (an_element h) = h

pub room : (s : List ℕ) (e : Element) → element_read s ≡ Some e → first_source e + 2 * operands e ≤ length s
room s e p = found (subst (Room (length s)) p (element_room s))

-- a content that names an element has a kind and a width
data Wide (n : ℕ) : Option Element → Type 0 where
  bad : Wide n None
  wide : (r : Option Element) → 2 ≤ n → Wide n r

element_wide : (s : List ℕ) → Wide (length s) (element_read s)
unfolding element_read
element_wide s = arms_lt (Wide (length s)) _ _ _ _ (λ _. bad) (λ h. wide _ h)

wide_found : {n : ℕ} {e : Element} → Wide n (Some e) → 2 ≤ n
wide_found (wide r h) = h

pub two : (s : List ℕ) (e : Element) → element_read s ≡ Some e → 2 ≤ length s
two s e p = wide_found (subst (Wide (length s)) p (element_wide s))
