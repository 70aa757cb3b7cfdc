-- 1, the head, the tables, the nodes, and the end behind them.
use Rattle.std.proofs.lemmas.Result.{err_from_is_err_and}
use Rattle.opening.specs.Turn.{too_long, bad_head, bad_said, end_reads, end_circuit, end_bad}
use Rattle.opening.proofs.fill_circuit.Goals as goal

pub returns-then-file-gt46000-clause-err : goal.returns-then-file-gt46000-clause-err
returns-then-file-gt46000-clause-err c = too_long _ c.if-file-gt46000.true

pub returns-in_err-check_head-clause-err : goal.returns-in_err-check_head-clause-err
returns-in_err-check_head-clause-err c =
    let p = err_from_is_err_and c.from_residual.result c.from_residual.ensures.1 in
    rw (p.1, p.2) (bad_head _ c.if-file-gt46000.false c.in_err-check_head.ensures.err)

pub returns-in_err-behind-clause-err : goal.returns-in_err-behind-clause-err
returns-in_err-behind-clause-err c =
    let p = err_from_is_err_and c.from_residual-in_err-behind.result c.from_residual-in_err-behind.ensures.1 in
    rw (p.1, p.2) (bad_said c.in_err-behind.ensures.err)

pub returns-in_err-end-clause-err : goal.returns-in_err-end-clause-err
returns-in_err-end-clause-err c =
    let p = err_from_is_err_and c.from_residual-in_err-end.result c.from_residual-in_err-end.ensures.1 in
    rw (p.1, p.2) (bad_said c.in_err-end.ensures.err)

pub returns-clause-reads : goal.returns-clause-reads
returns-clause-reads c = end_reads c.in_ok-end.ensures.ok _ c.check_end.ensures

pub returns-clause-circuit : goal.returns-clause-circuit
returns-clause-circuit c = end_circuit c.in_ok-end.ensures.ok _ c.check_end.ensures

pub returns-clause-err : goal.returns-clause-err
returns-clause-err c = end_bad c.in_ok-end.ensures.ok _ c.check_end.ensures
