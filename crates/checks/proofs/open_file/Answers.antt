-- A refusal of checks 1 to 5, or the verdict on the netlist.
use Rattle.std.proofs.lemmas.Result.{err_from_is_err_and}
use Rattle.checks.specs.Opens.{bad_file, open_by, turned_by}
use Rattle.checks.proofs.open_file.Goals as goal

pub returns-in_err-fill_circuit-clause-err : goal.returns-in_err-fill_circuit-clause-err
returns-in_err-fill_circuit-clause-err c =
    let p = err_from_is_err_and c.from_residual.result c.from_residual.ensures.1 in
    rw (p.1, p.2) (bad_file _ c.in_err-fill_circuit.ensures.err)

pub returns-clause-ok : goal.returns-clause-ok
returns-clause-ok c =
    let f = c.in_ok-fill_circuit.ensures in
    let k = c.check_net.ensures in
    open_by f.reads k.net k.circuit _ k.verdict k.complete

pub returns-clause-err : goal.returns-clause-err
returns-clause-err c =
    let f = c.in_ok-fill_circuit.ensures in
    let k = c.check_net.ensures in
    turned_by f.reads k.net k.circuit _ k.verdict
