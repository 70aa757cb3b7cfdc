-- What a well made node field holds, how many operands an element has, and the number of an operation. Assumes nothing.
use Rattle.std.specs.Prelude.{◌≡◌, refl, Bool, true, false, cond, List, ℕ, ◌≤◌, ◌<◌, length, get_or, eqb, Option, Some, None}
use Rattle.std.proofs.lemmas.Bool.{false≢true}
use Rattle.std.proofs.Common.{arith, eqb→eq, lit≤, ne_eqb}
use Rattle.lists.proofs.Paths.{arms_lt, arms_eq}
use Rattle.lists.proofs.TableRule.{at}
use Rattle.words.specs.Words.{operand_counts}
use Rattle.words.specs.Gates.{operands_of}
use Rattle.words.specs.declared.Op.{Op}
use Rattle.words.specs.declared.Op.TheVariants.{Constant, Not, And, Or, Xor, Add, Subtract, Equal, Less, Choose, Part, Join}
use Rattle.netlist.specs.Net.{operands}
use Rattle.netlist.specs.declared.Element.{Element}
use Rattle.netlist.specs.declared.Element.TheVariants.{Input, Output, Register, Async, Clocked, Gate}
use Rattle.netlist.specs.NodeField.{plain_op, op_number, kind_read, element_read, node_with, node_read}

-- a kind and a width stand in it
pub record NodeFacts (c : List ℕ) (r : Option Element) : Type 0 where
  pub long : 2 ≤ length c
  pub wide_low : 1 ≤ get_or c 1 0
  pub wide_high : get_or c 1 0 ≤ 16
  pub width : (node_with c r).node.width ≡ get_or c 1 0

width_is : (c : List ℕ) (r : Option Element) → (node_with c r).good ≡ true → (node_with c r).node.width ≡ get_or c 1 0
width_is c None e = absurd (false≢true e)
width_is c (Some x) e = refl

facts : (c : List ℕ) → (node_with c (element_read c)).good ≡ true → NodeFacts c (element_read c)
unfolding element_read
facts c =
    arms_lt P _ _ (length c) 2 (λ _. no_way) (λ l.
    arms_eq P _ _ (get_or c 1 0) 0 (λ _. no_way) (λ a.
    arms_lt P _ _ 16 (get_or c 1 0) (λ _. no_way) (λ b e.
    record { long = l; wide_low = omega arith; wide_high = b; width = width_is c (kind_read (get_or c 0 0) c) e })))
  where
    P : Option Element → Type 0
    P r = (node_with c r).good ≡ true → NodeFacts c r

    no_way : false ≡ true → NodeFacts c None
    no_way e = absurd (false≢true e)

pub node_facts : (c : List ℕ) → (node_read c).good ≡ true → NodeFacts c (element_read c)
unfolding node_read
node_facts c e = facts c e

pub node_width : (c : List ℕ) → (node_read c).good ≡ true → (node_read c).node.width ≡ get_or c 1 0
unfolding node_read
node_width c e = (facts c e).width

-- no element has over three operands
few_of_op : (o : Op) → operands_of o ≤ 3
few_of_op (Constant v) = lit≤ tt
few_of_op Not = lit≤ tt
few_of_op And = lit≤ tt
few_of_op Or = lit≤ tt
few_of_op Xor = lit≤ tt
few_of_op Add = lit≤ tt
few_of_op Subtract = lit≤ tt
few_of_op Equal = lit≤ tt
few_of_op Less = lit≤ tt
few_of_op Choose = lit≤ tt
few_of_op (Part b) = lit≤ tt
few_of_op Join = lit≤ tt

pub few_operands : (e : Element) → operands e ≤ 3
few_operands Input = lit≤ tt
few_operands Output = lit≤ tt
few_operands (Register r) = lit≤ tt
few_operands (Async m) = lit≤ tt
few_operands (Clocked m r) = lit≤ tt
few_operands (Gate o) = few_of_op o

-- ---- an operation that is its number alone has that number

numbered : ℕ → ℕ → Bool
numbered k x = cond (eqb k 0) true (cond (eqb k 10) true (eqb (op_number (plain_op k)) k))

pub plain_number : (k : ℕ) → k < 12 → (k ≡ 0 → ⊥) → (k ≡ 10 → ⊥) → op_number (plain_op k) ≡ k
unfolding numbered
plain_number k h a b = eqb→eq _ _ (simp (ne_eqb _ _ a, ne_eqb _ _ b) at (at numbered operand_counts tt k h))
