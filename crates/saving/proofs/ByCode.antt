-- How long the field of a node is, by its code and how many sources it has: the sum of Lengths, for who tells kinds by number. Assumes nothing.
use Rattle.std.specs.Prelude.{◌≡◌, refl, List, ℕ, ◌+◌, ◌*◌, ◌<◌, ◌≤◌, eqb, ltb}
use Rattle.std.proofs.Math.Path.{ap}
use Rattle.std.proofs.Common.{arith}
use Rattle.std.proofs.Math.ListN.{length}
use Rattle.lists.specs.Paths.{pick}
use Rattle.words.specs.declared.Op.{Op}
use Rattle.words.specs.declared.Op.TheVariants.{Constant, Not, And, Or, Xor, Add, Subtract, Equal, Less, Choose, Part, Join}
use Rattle.netlist.specs.declared.Node.{Node}
use Rattle.netlist.specs.declared.Element.{Element}
use Rattle.netlist.specs.declared.Element.TheVariants.{Input, Output, Register, Async, Clocked, Gate}
use Rattle.netlist.specs.Net.{size, node_at, element_at, operands}
use Rattle.netlist.specs.File.{node_bytes}
use Rattle.codec.proofs.ContentLength.{content_length, content_short, length-content}
use Rattle.circuit.specs.Code.{code_of}
use Rattle.circuit.specs.Circuit.{row_node, net_of}
use Rattle.circuit.proofs.CircuitLaws.{node_of}

-- what a node holds besides kind, width and sources: a reset word, a table, both, an operation with a word or a lowest bit
abbrev pub own_by_code : ℕ → ℕ
own_by_code c =
    pick (eqb c 2) 2
    (pick (eqb c 3) 1
    (pick (eqb c 4) 3
    (pick (eqb c 8) 3
    (pick (eqb c 18) 2
    (pick (ltb c 2) 0 1)))))

by_op : (o : Op) → content_length (Gate o) ≡ 2 + own_by_code (code_of (Gate o)) + 2 * operands (Gate o)
unfolding pick
by_op (Constant v) = refl
by_op Not = refl
by_op And = refl
by_op Or = refl
by_op Xor = refl
by_op Add = refl
by_op Subtract = refl
by_op Equal = refl
by_op Less = refl
by_op Choose = refl
by_op (Part b) = refl
by_op Join = refl

pub by_element : (e : Element) → content_length e ≡ 2 + own_by_code (code_of e) + 2 * operands e
unfolding pick
by_element Input = refl
by_element Output = refl
by_element (Register r) = refl
by_element (Async m) = refl
by_element (Clocked m r) = refl
by_element (Gate o) = by_op o

module _ (s l : List ℕ) (v : ℕ) (h : v < size (net_of s l)) where
  three : length (node_at (net_of s l) v).sources ≡ 3
  unfolding row_node
  three = ap (λ (x : Node). length x.sources) (node_of s l v h)

  pub node_length_by_code : {c n : ℕ} → c ≡ code_of (element_at (net_of s l) v) → n ≡ operands (element_at (net_of s l) v)
      → (5 + own_by_code c + 2 * n ≡ length (node_bytes (node_at (net_of s l) v))) × (5 + own_by_code c + 2 * n ≤ 12)
  unfolding element_at
  node_length_by_code {c} {n} e f =
      let x = node_at (net_of s l) v in
      let o = ap own_by_code e in
      (omega (arith, by_element x.element, length-content x three, o, f), omega (arith, by_element x.element, content_short x.element, o, f))
