-- A field's content by its bytes in the file. Assumes nothing.
use Rattle.std.specs.Prelude.{Option}
use mathlib.Core.Path.{◌≡◌, refl, sym, ap, ap₂, ◌∙◌}
use mathlib.Core.Bool.{Bool, true, false}
use mathlib.Core.List.{List, [], ◌∷◌}
use Prim.Native.Nat.{ℕ, ◌+◌, ◌*◌, ◌≤◌, ◌<◌}
use native.Mathlib.Omega.{arith}
use lib.ListN.{length, get_or}
use lib.Dec.{ltb, eqb}
use borrow.Author.Tests.{ltb-true, eqb-true, eqb-false}
use Rattle.lists.specs.Paths.{pick}
use Rattle.lists.proofs.Paths.{arms_eq, on_eq, off_eq}
use Rattle.words.specs.Words.{word}
use Rattle.words.specs.declared.Op.{Op}
use Rattle.words.specs.declared.Op.TheVariants.{Constant, Part}
use Rattle.netlist.specs.Net.{rom, operands}
use Rattle.netlist.specs.Field.{length_at, content}
use Rattle.netlist.specs.NodeField.{gate_length, first_source, sources_from, node_read, node_with}
use Rattle.netlist.proofs.NodeLaws.{node_facts}
use Rattle.netlist.proofs.FieldLaws.{content-length, byte_in, word_in}
use Rattle.netlist.specs.ScanLaws.{NodeAt}
use Rattle.netlist.specs.File.{node_in}
use Rattle.netlist.specs.declared.Element.{Element}
use Rattle.netlist.specs.declared.Element.TheVariants.{Register, Async, Clocked, Gate}
use Rattle.netlist.specs.declared.Node.{Node}
use Rattle.nodes.specs.Room.{room}
use Rattle.circuit.specs.Code.{code_of}
use Rattle.nodes.specs.Code.{op_number_lem}
use Rattle.nodes.specs.Unchecked.{op_unchecked, element_unchecked, is_register_lem, is_async_lem, is_clocked_lem, is_gate, unchecked, Lengths, lengths}

module _ (s : List ℕ) (at : ℕ) where
  -- the same at a place of the file
  pub byte_is : (i j : ℕ) → j ≡ at + 3 + i → i < length_at s at → get_or (content s at) i 0 ≡ get_or s j 0
  byte_is i j e h = byte_in s at i h ∙ ap (λ (k : ℕ). get_or s k 0) (sym e)

  pub word_is : (i j : ℕ) → j ≡ at + 3 + i → i + 1 < length_at s at → word (content s at) i ≡ word s j
  word_is i j e h = word_in s at i h ∙ ap (word s) (sym e)

  one_source : (b : Bool) (f j : ℕ) → (b ≡ true → f + j + 1 < length_at s at) → pick b (word s (at + 3 + f + j)) 0 ≡ pick b (word (content s at) (f + j)) 0
  unfolding pick
  one_source true f j h = let e : at + 3 + f + j ≡ at + 3 + (f + j) = omega arith in ap (word s) e ∙ sym (word_in s at (f + j) (h refl))
  one_source false f j h = refl

  -- the sources stand in the file as in the content
  pub sources_in_lem : (f n : ℕ) → f + 2 * n ≤ length_at s at → sources_from s (at + 3 + f) n ≡ sources_from (content s at) f n
  unfolding sources_from
  sources_in_lem f n h =
      let none : at + 3 + f ≡ at + 3 + f + 0 = omega arith in
      let here : f + 0 ≡ f = omega arith in
      λ i. first none here i
      ∷ one_source (ltb 1 n) f 2 (λ e. let l = ltb-true 1 n e in omega arith) i
      ∷ one_source (ltb 2 n) f 4 (λ e. let l = ltb-true 2 n e in omega arith) i
      ∷ []
    where
      first : at + 3 + f ≡ at + 3 + f + 0 → f + 0 ≡ f → pick (ltb 0 n) (word s (at + 3 + f)) 0 ≡ pick (ltb 0 n) (word (content s at) f) 0
      first a b =
          ap (λ (k : ℕ). pick (ltb 0 n) (word s k) 0) a ∙ one_source (ltb 0 n) f 0 (λ e. let l = ltb-true 0 n e in omega arith) ∙ ap (λ (k : ℕ). pick (ltb 0 n) (word (content s at) k) 0) b

  -- ---- a field that passed check 5

  module _ (p : NodeAt s at) where
    pub long : 2 ≤ length_at s at
    long = omega (arith, (node_facts (content s at) p.good).long, content-length s at p.inside)

    pub kind_in : get_or (content s at) 0 0 ≡ get_or s (at + 3) 0
    kind_in = let e : at + 3 + 0 ≡ at + 3 = omega arith in byte_in s at 0 (let l = long in omega arith) ∙ ap (λ (k : ℕ). get_or s k 0) e

    pub shape : Lengths (content s at)
    shape = lengths (content s at) p.good

    pub size_in : length (content s at) ≡ length_at s at
    size_in = content-length s at p.inside

    pub element_in : element_unchecked (content s at) ≡ (node_in s at).element
    unfolding node_in node_read
    element_in = sym (ap (λ (r : Option Element). (node_with (content s at) r).node.element) (unchecked (content s at) p.good))

    pub sources_room : first_source (element_unchecked (content s at)) + 2 * operands (element_unchecked (content s at)) ≤ length_at s at
    sources_room = omega (arith, room (content s at) (element_unchecked (content s at)) (unchecked (content s at) p.good), size_in)

    -- the node, put together from its element, its width and its sources in the file
    pub node_in_lem : (e : Element) (w : ℕ) (l : List ℕ) → e ≡ (node_in s at).element → w ≡ get_or s (at + 4) 0 → l ≡ sources_from s (at + 3 + first_source e) (operands e)
        → record { element = e; width = w; sources = l } ≡ node_in s at
    unfolding node_in node_read
    node_in_lem e w l a b d =
        let c = content s at in
        let x : e ≡ element_unchecked c = a ∙ sym element_in in
        let y : w ≡ get_or c 1 0 = b ∙ sym (byte_in s at 1 long ∙ ap (λ (k : ℕ). get_or s k 0) (let q : at + 3 + 1 ≡ at + 4 = omega arith in q)) in
        let z : l ≡ sources_from c (first_source (element_unchecked c)) (operands (element_unchecked c)) =
        d ∙ ap (λ (k : Element). sources_from s (at + 3 + first_source k) (operands k)) x ∙ sources_in_lem (first_source (element_unchecked c)) (operands (element_unchecked c)) sources_room in
        (λ i. record { element = x i; width = y i; sources = z i }) ∙ sym (ap (λ (r : Option Element). (node_with c r).node) (unchecked c p.good))

    -- ---- the element, by the kind that stands in the file

    module _ (k : ℕ) (e : get_or s (at + 3) 0 ≡ k) where
      kind_is : get_or (content s at) 0 0 ≡ k
      kind_is = kind_in ∙ e

      pub register_long : k ≡ 2 → length_at s at ≡ 6
      register_long q = sym size_in ∙ shape.register (kind_is ∙ q)

      pub async_long : k ≡ 3 → length_at s at ≡ 5
      async_long q = sym size_in ∙ shape.async (kind_is ∙ q)

      pub clocked_long : k ≡ 4 → length_at s at ≡ 7
      clocked_long q = sym size_in ∙ shape.clocked (kind_is ∙ q)

    pub register_at : get_or s (at + 3) 0 ≡ 2 → (w : ℕ) → w ≡ word s (at + 7) → Register w ≡ (node_in s at).element
    register_at e w q =
        let l = register_long 2 e refl in
        is_register_lem (content s at) (kind_in ∙ e) (ap Register (q ∙ sym (word_is 4 (at + 7) (omega arith) (omega arith)))) ∙ element_in

    pub async_at : get_or s (at + 3) 0 ≡ 3 → Async (rom (get_or s (at + 7) 0)) ≡ (node_in s at).element
    async_at e =
        let l = async_long 3 e refl in
        is_async_lem (content s at) (kind_in ∙ e) (ap (λ (k : ℕ). Async (rom k)) (sym (byte_is 4 (at + 7) (omega arith) (omega arith)))) ∙ element_in

    pub clocked_at : get_or s (at + 3) 0 ≡ 4 → (w : ℕ) → w ≡ word s (at + 8) → Clocked (rom (get_or s (at + 7) 0)) w ≡ (node_in s at).element
    clocked_at e w q =
        let l = clocked_long 4 e refl in
        is_clocked_lem (content s at) (kind_in ∙ e) (ap₂ (λ (k r : ℕ). Clocked (rom k) r) (sym (byte_is 4 (at + 7) (omega arith) (omega arith))) (q ∙ sym (word_is 5 (at + 8) (omega arith) (omega arith)))) ∙ element_in

    pub gate_at : get_or s (at + 3) 0 ≡ 5 → (o : Op) → o ≡ op_unchecked (content s at) → Gate o ≡ (node_in s at).element
    gate_at e o q = is_gate (content s at) (kind_in ∙ e) (ap Gate q) ∙ element_in

    -- the kinds are no more than these
    pub kind_few : get_or s (at + 3) 0 ≤ 5
    kind_few = omega (arith, kind_in, shape.few)

    -- the sources alone
    pub sources_here : (f n : ℕ) → f ≡ first_source (node_in s at).element → n ≡ operands (node_in s at).element → sources_from s (at + 3 + f) n ≡ (node_in s at).sources
    sources_here f n p q = ap₂ (λ (k m : ℕ). sources_from s (at + 3 + k) m) p q ∙ ap (λ (x : Node). x.sources) (node_in_lem _ _ _ refl refl refl)

    pub sources_fit : (f n : ℕ) → f ≡ first_source (node_in s at).element → n ≡ operands (node_in s at).element → f + 2 * n ≤ length_at s at
    sources_fit f n p q = omega (arith, sources_room, ap₂ (λ (k m : ℕ). k + 2 * m) (p ∙ ap first_source (sym element_in)) (q ∙ ap operands (sym element_in)))

    -- ---- a gate's operation

    module _ (e : get_or s (at + 3) 0 ≡ 5) where
      pub gate_long : length_at s at ≡ gate_length (get_or (content s at) 2 0)
      gate_long = sym size_in ∙ shape.gate (kind_in ∙ e)

      pub operation_in : get_or (content s at) 2 0 ≡ get_or s (at + 5) 0
      operation_in = byte_is 2 (at + 5) (omega arith) (omega (arith, gate_long))

      pub constant_long : get_or s (at + 5) 0 ≡ 0 → length_at s at ≡ 5
      unfolding pick
      constant_long q = gate_long ∙ ap gate_length (operation_in ∙ q)

      pub part_long : get_or s (at + 5) 0 ≡ 10 → length_at s at ≡ 6
      unfolding pick
      part_long q = gate_long ∙ ap gate_length (operation_in ∙ q)

      pub constant_at : get_or s (at + 5) 0 ≡ 0 → (w : ℕ) → w ≡ word s (at + 6) → Constant w ≡ op_unchecked (content s at)
      constant_at q w r =
          let l = constant_long q in
          on_eq _ _ (get_or (content s at) 2 0) 0 (operation_in ∙ q) (ap Constant (r ∙ sym (word_is 3 (at + 6) (omega arith) (omega arith))))

      pub part_at : get_or s (at + 5) 0 ≡ 10 → Part (get_or s (at + 8) 0) ≡ op_unchecked (content s at)
      part_at q =
          let l = part_long q in
          off_eq _ _ (get_or (content s at) 2 0) 0 (λ d. omega (arith, operation_in)) (on_eq _ _ (get_or (content s at) 2 0) 10 (operation_in ∙ q) (ap Part (sym (byte_is 5 (at + 8) (omega arith) (omega arith)))))

    -- ---- the code

    -- a gate's operation stands in the file
    pub operation_inside : get_or s (at + 3) 0 ≡ 5 → at + 5 < length s
    operation_inside e = omega (arith, gate_long e, p.inside)

    pub gate_told : get_or s (at + 3) 0 ≡ 5 → 8 + get_or s (at + 5) 0 ≡ code_of (node_in s at).element
    gate_told g =
        ap (8 +◌) (sym (operation_in g) ∙ sym (op_number_lem (content s at) (shape.operation (kind_in ∙ g)))) ∙ ap code_of (gate_at g (op_unchecked (content s at)) refl)

    pub kind_told : (get_or s (at + 3) 0 ≡ 5 → ⊥) → get_or s (at + 3) 0 ≡ code_of (node_in s at).element
    kind_told n = sym kind_in ∙ told (content s at) (λ e. n (sym kind_in ∙ e)) shape.few ∙ ap code_of element_in
      where
        told : (c : List ℕ) → (get_or c 0 0 ≡ 5 → ⊥) → get_or c 0 0 ≤ 5 → get_or c 0 0 ≡ code_of (element_unchecked c)
        told c h l =
            arms_eq P _ _ k 0 (λ e. e) (λ a. arms_eq P _ _ k 1 (λ e. e) (λ b. arms_eq P _ _ k 2 (λ e. e) (λ d.
            arms_eq P _ _ k 3 (λ e. e) (λ f. arms_eq P _ _ k 4 (λ e. e) (λ g. absurd (h (omega arith)))))))
          where
            k : ℕ
            k = get_or c 0 0

            P : Element → Type 0
            P x = k ≡ code_of x

    -- the bytes that a code tells
    pub kind_by : (k : ℕ) → k < 5 → k ≡ code_of (node_in s at).element → get_or s (at + 3) 0 ≡ k
    kind_by k h q = by (eqb (get_or s (at + 3) 0) 5) refl
      where
        by : (t : Bool) → eqb (get_or s (at + 3) 0) 5 ≡ t → get_or s (at + 3) 0 ≡ k
        by true e = absurd (omega (arith, q, gate_told (eqb-true (get_or s (at + 3) 0) 5 e)))
        by false e = kind_told (eqb-false (get_or s (at + 3) 0) 5 e) ∙ sym q

    pub gate_by : (k : ℕ) → 8 + k ≡ code_of (node_in s at).element → (get_or s (at + 3) 0 ≡ 5) × (get_or s (at + 5) 0 ≡ k)
    gate_by k q = by (eqb (get_or s (at + 3) 0) 5) refl
      where
        by : (t : Bool) → eqb (get_or s (at + 3) 0) 5 ≡ t → (get_or s (at + 3) 0 ≡ 5) × (get_or s (at + 5) 0 ≡ k)
        by true e = let g = eqb-true (get_or s (at + 3) 0) 5 e in (g, omega (arith, q, gate_told g))
        by false e = absurd (omega (arith, q, kind_few, kind_told (eqb-false (get_or s (at + 3) 0) 5 e)))
