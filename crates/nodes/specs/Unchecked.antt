-- A well made content, read again without its checks. Assumes nothing.
use Rattle.std.specs.Prelude.{◌≡◌, refl, true, List, ℕ, ◌≤◌, length, get_or, eqb, Option, Some, None}
use Rattle.std.proofs.Common.{sym, ap, ◌∙◌, arith}
use Rattle.std.proofs.lemmas.Bool.{false≢true}
use Rattle.lists.specs.Paths.{pick}
use Rattle.lists.proofs.Paths.{arms, arms_lt, arms_eq, on_eq, off_eq}
use Rattle.words.specs.Words.{word}
use Rattle.words.specs.declared.Op.{Op}
use Rattle.words.specs.declared.Op.TheVariants.{Constant, Part}
use Rattle.netlist.specs.Net.{rom}
use Rattle.netlist.specs.NodeField.{gate_length, plain_op, op_read, gate_read, kind_read, element_read, node_with, node_read}
use Rattle.netlist.specs.declared.Element.{Element}
use Rattle.netlist.specs.declared.Element.TheVariants.{Input, Output, Register, Async, Clocked, Gate}

-- the operation by its number, the element by its kind
abbrev pub op_unchecked : List ℕ → Op
op_unchecked c = pick (eqb (get_or c 2 0) 0) (Constant (word c 3)) (pick (eqb (get_or c 2 0) 10) (Part (get_or c 5 0)) (plain_op (get_or c 2 0)))

abbrev pub element_unchecked : List ℕ → Element
element_unchecked c =
    pick (eqb (get_or c 0 0) 0) Input
    (pick (eqb (get_or c 0 0) 1) Output
    (pick (eqb (get_or c 0 0) 2) (Register (word c 4))
    (pick (eqb (get_or c 0 0) 3) (Async (rom (get_or c 4 0)))
    (pick (eqb (get_or c 0 0) 4) (Clocked (rom (get_or c 4 0)) (word c 5))
    (Gate (op_unchecked c))))))

-- how long a content of each kind is
pub record Lengths (c : List ℕ) : Type 0 where
  pub register : get_or c 0 0 ≡ 2 → length c ≡ 6
  pub async : get_or c 0 0 ≡ 3 → length c ≡ 5
  pub clocked : get_or c 0 0 ≡ 4 → length c ≡ 7
  pub few : get_or c 0 0 ≤ 5
  pub operation : get_or c 0 0 ≡ 5 → get_or c 2 0 ≤ 11
  pub gate : get_or c 0 0 ≡ 5 → length c ≡ gate_length (get_or c 2 0)

-- ---- the operation

data OpIs (c : List ℕ) : Option Op → Type 0 where
  no_op : OpIs c None
  an_op : {o : Op} → o ≡ op_unchecked c → get_or c 2 0 ≤ 11 → length c ≡ gate_length (get_or c 2 0) → OpIs c (Some o)

op_is : (c : List ℕ) → OpIs c (op_read c)
unfolding op_read
op_is c =
    arms P _ _ _ (λ _. no_op) (λ _.
    arms_lt P _ _ 11 (get_or c 2 0) (λ _. no_op) (λ h.
    arms_eq P _ _ (length c) (gate_length (get_or c 2 0))
    (λ l. arms_eq P _ _ (get_or c 2 0) 0
    (λ e. arms P _ _ _ (λ _. an_op (on_eq _ _ (get_or c 2 0) 0 e refl) h l) (λ _. no_op))
    (λ d. arms_eq P _ _ (get_or c 2 0) 10
    (λ e. an_op (off_eq _ _ (get_or c 2 0) 0 d (on_eq _ _ (get_or c 2 0) 10 e refl)) h l)
    (λ f. an_op (off_eq _ _ (get_or c 2 0) 0 d (off_eq _ _ (get_or c 2 0) 10 f refl)) h l)))
    (λ _. no_op)))
  where
    P : Option Op → Type 0
    P = OpIs c

-- ---- the element

data ElementIs (c : List ℕ) : Option Element → Type 0 where
  no_element : ElementIs c None
  an_element : {e : Element} → e ≡ element_unchecked c → Lengths c → ElementIs c (Some e)

-- past the kinds below its own
module _ (c : List ℕ) {z : Element} where
  pub is_input_lem : get_or c 0 0 ≡ 0 → z ≡ Input → z ≡ element_unchecked c
  is_input_lem e q = on_eq _ _ (get_or c 0 0) 0 e q

  pub is_output_lem : get_or c 0 0 ≡ 1 → z ≡ Output → z ≡ element_unchecked c
  is_output_lem e q = off_eq _ _ (get_or c 0 0) 0 (λ d. omega arith) (on_eq _ _ (get_or c 0 0) 1 e q)

  pub is_register_lem : get_or c 0 0 ≡ 2 → z ≡ Register (word c 4) → z ≡ element_unchecked c
  is_register_lem e q = off_eq _ _ (get_or c 0 0) 0 (λ d. omega arith) (off_eq _ _ (get_or c 0 0) 1 (λ d. omega arith) (on_eq _ _ (get_or c 0 0) 2 e q))

  pub is_async_lem : get_or c 0 0 ≡ 3 → z ≡ Async (rom (get_or c 4 0)) → z ≡ element_unchecked c
  is_async_lem e q =
      off_eq _ _ (get_or c 0 0) 0 (λ d. omega arith) (off_eq _ _ (get_or c 0 0) 1 (λ d. omega arith) (off_eq _ _ (get_or c 0 0) 2 (λ d. omega arith) (on_eq _ _ (get_or c 0 0) 3 e q)))

  pub is_clocked_lem : get_or c 0 0 ≡ 4 → z ≡ Clocked (rom (get_or c 4 0)) (word c 5) → z ≡ element_unchecked c
  is_clocked_lem e q =
      off_eq _ _ (get_or c 0 0) 0 (λ d. omega arith) (off_eq _ _ (get_or c 0 0) 1 (λ d. omega arith) (off_eq _ _ (get_or c 0 0) 2 (λ d. omega arith)
      (off_eq _ _ (get_or c 0 0) 3 (λ d. omega arith) (on_eq _ _ (get_or c 0 0) 4 e q))))

  pub is_gate : get_or c 0 0 ≡ 5 → z ≡ Gate (op_unchecked c) → z ≡ element_unchecked c
  is_gate e q =
      off_eq _ _ (get_or c 0 0) 0 (λ d. omega arith) (off_eq _ _ (get_or c 0 0) 1 (λ d. omega arith) (off_eq _ _ (get_or c 0 0) 2 (λ d. omega arith)
      (off_eq _ _ (get_or c 0 0) 3 (λ d. omega arith) (off_eq _ _ (get_or c 0 0) 4 (λ d. omega arith) q))))

plain : (c : List ℕ) (k n : ℕ) → get_or c 0 0 ≡ k → k ≤ 4 → (k ≡ 2 → n ≡ 6) → (k ≡ 3 → n ≡ 5) → (k ≡ 4 → n ≡ 7) → length c ≡ n → Lengths c
plain c k n e h a b d l = record {
  register = λ q. l ∙ a (sym e ∙ q);
  async = λ q. l ∙ b (sym e ∙ q);
  clocked = λ q. l ∙ d (sym e ∙ q);
  few = omega arith;
  operation = λ q. absurd (omega arith);
  gate = λ q. absurd (omega arith);
}

kind_is : (c : List ℕ) → ElementIs c (kind_read (get_or c 0 0) c)
unfolding kind_read
kind_is c =
    arms_eq P _ _ k 0 (λ e. arms_eq P _ _ (length c) 2 (λ l. an_element (is_input_lem c e refl) (plain c 0 2 e (omega arith) (λ q. absurd (omega arith)) (λ q. absurd (omega arith)) (λ q. absurd (omega arith)) l)) (λ _. no_element)) (λ _.
    arms_eq P _ _ k 1 (λ e. arms_eq P _ _ (length c) 4 (λ l. an_element (is_output_lem c e refl) (plain c 1 4 e (omega arith) (λ q. absurd (omega arith)) (λ q. absurd (omega arith)) (λ q. absurd (omega arith)) l)) (λ _. no_element)) (λ _.
    arms_eq P _ _ k 2 (λ e. arms_eq P _ _ (length c) 6 (λ l. arms P _ _ _ (λ _. an_element (is_register_lem c e refl) (plain c 2 6 e (omega arith) (λ q. refl) (λ q. absurd (omega arith)) (λ q. absurd (omega arith)) l)) (λ _. no_element)) (λ _. no_element)) (λ _.
    arms_eq P _ _ k 3 (λ e. arms_eq P _ _ (length c) 5 (λ l. an_element (is_async_lem c e refl) (plain c 3 5 e (omega arith) (λ q. absurd (omega arith)) (λ q. refl) (λ q. absurd (omega arith)) l)) (λ _. no_element)) (λ _.
    arms_eq P _ _ k 4 (λ e. arms_eq P _ _ (length c) 7 (λ l. arms P _ _ _ (λ _. an_element (is_clocked_lem c e refl) (plain c 4 7 e (omega arith) (λ q. absurd (omega arith)) (λ q. absurd (omega arith)) (λ q. refl) l)) (λ _. no_element)) (λ _. no_element)) (λ _.
    arms_eq P _ _ k 5 (λ e. of_op e (op_read c) (op_is c)) (λ _. no_element))))))
  where
    k : ℕ
    k = get_or c 0 0

    P : Option Element → Type 0
    P = ElementIs c

    of_op : get_or c 0 0 ≡ 5 → (o : Option Op) → OpIs c o → ElementIs c (gate_read o)
    of_op e None q = no_element
    of_op e (Some o) (an_op q h l) = an_element (is_gate c e (ap Gate q)) (record {
      register = λ x. absurd (omega arith);
      async = λ x. absurd (omega arith);
      clocked = λ x. absurd (omega arith);
      few = omega arith;
      operation = λ x. h;
      gate = λ x. l;
    })

element_is : (c : List ℕ) → ElementIs c (element_read c)
unfolding element_read
element_is c = arms (ElementIs c) _ _ _ (λ _. no_element) (λ _. arms (ElementIs c) _ _ _ (λ _. no_element) (λ _. arms (ElementIs c) _ _ _ (λ _. no_element) (λ _. kind_is c)))

module _ (c : List ℕ) where
  good_is : (r : Option Element) → ElementIs c r → (node_with c r).good ≡ true → (r ≡ Some (element_unchecked c)) × Lengths c
  good_is None x e = absurd (false≢true e)
  good_is (Some z) (an_element q l) e = (ap Some q, l)

  pub unchecked : (node_read c).good ≡ true → element_read c ≡ Some (element_unchecked c)
  unfolding node_read
  unchecked e = (good_is (element_read c) (element_is c) e).0

  pub lengths : (node_read c).good ≡ true → Lengths c
  unfolding node_read
  lengths e = (good_is (element_read c) (element_is c) e).1
