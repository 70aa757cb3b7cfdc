-- Two operations hold a number; the others are their own.
use mathlib.Core.Path.{sym, ap}
use Prim.Native.Nat.{ℕ}
use native.Mathlib.Omega.{arith}
use Rattle.lists.specs.Paths.{pick}
use Rattle.circuit.specs.Code.{op_by}
use Rattle.circuit.proofs.RowLaws.{plain_by}
use Rattle.circuit.proofs.rows.op_by.Goals as goal

pub returns-in-0 : goal.returns-in-0
unfolding op_by pick
returns-in-0 c = ap (λ (k : ℕ). op_by k c.args.x) (sym c.in-0.is)

pub returns-in-10 : goal.returns-in-10
unfolding op_by pick
returns-in-10 c = ap (λ (k : ℕ). op_by k c.args.x) (sym c.in-10.is)

pub returns-in_default : goal.returns-in_default
returns-in_default c = plain_by _ _ _ (λ q. omega arith) (λ q. omega arith) c.plain_op.ensures
