-- The other kinds by their code, a gate by its operation.
use mathlib.Core.Path.{sym, ap}
use Prim.Native.Nat.{ℕ}
use native.Mathlib.Omega.{arith}
use Rattle.lists.specs.Paths.{pick}
use Rattle.circuit.specs.Code.{element_by}
use Rattle.circuit.proofs.RowLaws.{gate_by}
use Rattle.circuit.proofs.rows.element_by.Goals as goal

pub returns-in-0 : goal.returns-in-0
unfolding element_by pick
returns-in-0 c = ap (λ (k : ℕ). element_by k c.args.x c.args.t) (sym c.in-0.is)

pub returns-in-1 : goal.returns-in-1
unfolding element_by pick
returns-in-1 c = ap (λ (k : ℕ). element_by k c.args.x c.args.t) (sym c.in-1.is)

pub returns-in-2 : goal.returns-in-2
unfolding element_by pick
returns-in-2 c = ap (λ (k : ℕ). element_by k c.args.x c.args.t) (sym c.in-2.is)

pub returns-in-3 : goal.returns-in-3
unfolding element_by pick
returns-in-3 c = ap (λ (k : ℕ). element_by k c.args.x c.args.t) (sym c.in-3.is)

pub returns-in-4 : goal.returns-in-4
unfolding element_by pick
returns-in-4 c = ap (λ (k : ℕ). element_by k c.args.x c.args.t) (sym c.in-4.is)

pub returns-in_default : goal.returns-in_default
returns-in_default c = gate_by _ _ _ _ (omega arith) c.op_by.ensures
