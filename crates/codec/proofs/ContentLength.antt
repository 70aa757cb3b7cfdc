-- How long the content of a node is. Assumes nothing.
use Rattle.std.specs.Prelude.{◌≡◌, refl, List, [], ◌∷◌, ◌++◌, ℕ, zero, suc, ◌+◌, ◌*◌, ◌≤◌, ◌<◌, length, get_or, take}
use Rattle.std.proofs.Common.{ap, ◌∙◌, not-suc-le-zero, le_of_suc-le-suc, add-one, arith, length-append, length-take-le, lit≤}
use Rattle.lists.specs.Lists.{concat_map}
use Rattle.lists.specs.Paths.{pick}
use Rattle.words.specs.Words.{bytes}
use Rattle.words.specs.declared.Op.{Op}
use Rattle.words.specs.declared.Op.TheVariants.{Constant, Not, And, Or, Xor, Add, Subtract, Equal, Less, Choose, Part, Join}
use Rattle.netlist.specs.declared.Element.{Element}
use Rattle.netlist.specs.declared.Element.TheVariants.{Input, Output, Register, Async, Clocked, Gate}
use Rattle.netlist.specs.declared.Node.{Node}
use Rattle.netlist.specs.Net.{operands}
use Rattle.netlist.specs.NodeField.{gate_length, op_number, kind_of, before_sources, after_sources, source_bytes, node_content}
use Rattle.codec.proofs.WordsLaws.{length-words}

-- ---- by element; a gate's by the count of its operands

abbrev pub content_length : Element → ℕ
content_length Input = 2
content_length Output = 4
content_length (Register r) = 6
content_length (Async m) = 5
content_length (Clocked m r) = 7
content_length (Gate o) = gate_length (op_number o)

-- it is kind and width, an operation, two bytes for each of at most three sources, and what stands after them: at most the 9 bytes of a choice
record Counted (e : Element) : Type 0 where
  sum : content_length e ≡ 2 + length (before_sources e) + 2 * operands e + length (after_sources e)
  short : content_length e ≤ 9
  few : operands e ≤ 3

counted : (e : Element) → Counted e
unfolding pick
counted Input = record { sum = refl; short = lit≤ tt; few = lit≤ tt }
counted Output = record { sum = refl; short = lit≤ tt; few = lit≤ tt }
counted (Register r) = record { sum = refl; short = lit≤ tt; few = lit≤ tt }
counted (Async m) = record { sum = refl; short = lit≤ tt; few = lit≤ tt }
counted (Clocked m r) = record { sum = refl; short = lit≤ tt; few = lit≤ tt }
counted (Gate o) = gate_counted o
  where
    gate_counted : (o : Op) → Counted (Gate o)
    gate_counted (Constant v) = record { sum = refl; short = lit≤ tt; few = lit≤ tt }
    gate_counted Not = record { sum = refl; short = lit≤ tt; few = lit≤ tt }
    gate_counted And = record { sum = refl; short = lit≤ tt; few = lit≤ tt }
    gate_counted Or = record { sum = refl; short = lit≤ tt; few = lit≤ tt }
    gate_counted Xor = record { sum = refl; short = lit≤ tt; few = lit≤ tt }
    gate_counted Add = record { sum = refl; short = lit≤ tt; few = lit≤ tt }
    gate_counted Subtract = record { sum = refl; short = lit≤ tt; few = lit≤ tt }
    gate_counted Equal = record { sum = refl; short = lit≤ tt; few = lit≤ tt }
    gate_counted Less = record { sum = refl; short = lit≤ tt; few = lit≤ tt }
    gate_counted Choose = record { sum = refl; short = lit≤ tt; few = lit≤ tt }
    gate_counted (Part b) = record { sum = refl; short = lit≤ tt; few = lit≤ tt }
    gate_counted Join = record { sum = refl; short = lit≤ tt; few = lit≤ tt }

pub content-sum : (e : Element) → content_length e ≡ 2 + length (before_sources e) + 2 * operands e + length (after_sources e)
content-sum e = (counted e).sum

pub content_short : (e : Element) → content_length e ≤ 9
content_short e = (counted e).short

pub few_sources : (e : Element) → operands e ≤ 3
few_sources e = (counted e).few

-- ---- of a written node

pub sources_are : (n : ℕ) (l : List ℕ) → source_bytes n l ≡ concat_map bytes (take n l)
sources_are zero l = refl
sources_are (suc n) [] = refl
sources_are (suc n) (x ∷ l) = ap (λ (m : List ℕ). bytes x ++ m) (sources_are n l)

-- one source more
pub sources-more : (l : List ℕ) (i : ℕ) → i < length l → source_bytes (i + 1) l ≡ source_bytes i l ++ bytes (get_or l i 0)
sources-more l i h = rw add-one (next l i h)
  where
    next : (l : List ℕ) (i : ℕ) → i < length l → source_bytes (suc i) l ≡ source_bytes i l ++ bytes (get_or l i 0)
    next [] i h = absurd (not-suc-le-zero h)
    next (x ∷ l) zero h = refl
    next (x ∷ l) (suc i) h = ap (λ (m : List ℕ). bytes x ++ m) (next l i (le_of_suc-le-suc h))

pub length-sources : (n : ℕ) (l : List ℕ) → n ≤ length l → length (source_bytes n l) ≡ 2 * n
length-sources n l h = ap length (sources_are n l) ∙ length-words (take n l) ∙ ap (λ (k : ℕ). 2 * k) (length-take-le n l h)

pub length_parts : (x : Node) → length (node_content x)
    ≡ length (kind_of x.element ∷ x.width ∷ before_sources x.element) + length (source_bytes (operands x.element) x.sources) + length (after_sources x.element)
unfolding node_content
length_parts x = simp length-append

pub length-content : (x : Node) → length x.sources ≡ 3 → length (node_content x) ≡ content_length x.element
length-content x three =
    let few = few_sources x.element in
    omega (arith, length_parts x, counted x.element, length-sources (operands x.element) x.sources (omega arith))
