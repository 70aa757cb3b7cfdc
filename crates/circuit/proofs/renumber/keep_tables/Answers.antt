use mathlib.Core.Path.{◌≡◌, subst}
use Prim.Native.Nat.{ℕ}
use native.Mathlib.Omega.{arith}
use lib.ListN.{get_or}
use Rattle.circuit.proofs.CircuitLaws.{size-tables}
use Rattle.circuit.proofs.Keeping.{Keeping, keeping_none, keeping_past, keeping_more, tables_kept}
use Rattle.circuit.proofs.renumber.keep_tables.Goals as goal
use Rattle.circuit.proofs.renumber.keep_tables.Goals.{then-marks-k-gt0, else-marks-k-gt0}

pub loop-k-init : goal.loop-k-init
loop-k-init c =
    let a = c in
    (omega (arith, a.requires.formed.few_tables, size-tables a.args.net.now), keeping_none a.args.marks.now a.args.net.now)

pub bounds-marks-k : goal.bounds-marks-k
bounds-marks-k c =
    let a = c in
    omega (arith, a.requires.marks, size-tables a.args.net.now)

pub loop-k-preserved : goal.loop-k-preserved
loop-k-preserved c =
    let l = c.loop-k in
    let room = c.requires.formed.room in (
      l.invariant.0,
      elim c.if-marks-k-gt0.branch [
        | then-marks-k-gt0 w ↦ rw (w.net-is, w.kept-is) (keeping_more l.invariant.1 w.if-marks-k-gt0.true (omega arith))
        | else-marks-k-gt0 w ↦ rw (w.net-is, w.kept-is) (keeping_past l.invariant.1 w.if-marks-k-gt0.false)
      ],
    )

pub returns : goal.returns
returns c =
    let a = c in
    let l = c.loop-k in
    let e : l.k ≡ get_or c.args.net.now 1 0 = omega arith in
    tables_kept a.requires.formed (subst (λ (k : ℕ). Keeping a.args.marks.now a.args.net.now k l.kept l.net) e l.invariant.1)
