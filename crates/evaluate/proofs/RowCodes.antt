-- A node's code tells in which rows it has a word. Assumes nothing.
use mathlib.Core.Path.{◌≡◌, sym, ap, ap₂, ◌∙◌}
use mathlib.Core.Bool.{Bool, true, ◌||◌}
use Prim.Native.Nat.{ℕ}
use lib.Dec.{eqb}
use borrow.Author.Tests.{eq-eqb, ne_eqb}
use Rattle.netlist.specs.declared.Element.{Element}
use Rattle.circuit.specs.Code.{code_of}
use Rattle.circuit.proofs.CodeLaws.{code_input, code_output, code_register, code_clocked}
use Rattle.evaluate.specs.Rows.{in_row}
use Rattle.evaluate.specs.declared.Row.{Row}
use Rattle.evaluate.specs.declared.Row.TheVariants.{Inputs, Outputs, State}

abbrev code_test : Row → ℕ → Bool
code_test Inputs k = eqb k 0
code_test Outputs k = eqb k 1
code_test State k = eqb k 2 || eqb k 4

row_code : (row : Row) (e : Element) → code_test row (code_of e) ≡ in_row row e
row_code Inputs e = code_input e
row_code Outputs e = code_output e
row_code State e = ap₂ (λ (a b : Bool). a || b) (code_register e) (code_clocked e)

-- what the code tests for the row that it matched
pub by_test : {row : Row} {k : ℕ} (known : Row) → row ≡ known → (r : Bool) → r ≡ code_test known k → (e : Element) → k ≡ code_of e → r ≡ in_row row e
by_test {row} {k} known q r h e n = h ∙ ap (λ (x : Row). code_test x k) (sym q) ∙ ap (code_test row) n ∙ row_code row e

module _ {k : ℕ} where
  pub register_test : k ≡ 2 → true ≡ code_test State k
  register_test h = sym (ap (λ (b : Bool). b || eqb k 4) (eq-eqb k 2 h))

  pub clocked_test : (k ≡ 2 → ⊥) → eqb k 4 ≡ code_test State k
  clocked_test h = sym (ap (λ (b : Bool). b || eqb k 4) (ne_eqb k 2 h))
