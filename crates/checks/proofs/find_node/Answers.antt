-- What opening tells, and the node of the netlist.
use Rattle.std.proofs.Common.{sym, subst}
use Rattle.std.proofs.lemmas.Result.{err_from_is_err_and}
use Rattle.netlist.specs.File.{ReadAs}
use Rattle.circuit.specs.Shown.{Shown}
use Rattle.checks.specs.Serves.{node_refused, node_there, node_missing}
use Rattle.checks.proofs.find_node.Goals as goal

pub returns-in_err-open_file-clause-err : goal.returns-in_err-open_file-clause-err
returns-in_err-open_file-clause-err c =
    let p = err_from_is_err_and c.from_residual.result c.from_residual.ensures.1 in
    rw (p.1, p.2) (node_refused _ _ c.in_err-open_file.ensures.err)

pub returns-then-v-n-clause-ok : goal.returns-then-v-n-clause-ok
returns-then-v-n-clause-ok c =
    let o = subst (λ (h : Shown). ReadAs c.args.file.now h.net) (sym c.of-net.ensures) c.in_ok-open_file.ensures.ok.file in
    node_there o _ c.node_count-n.ensures.count c.if-v-n.true _ c.node.ensures

pub returns-else-v-n-clause-err : goal.returns-else-v-n-clause-err
returns-else-v-n-clause-err c =
    let o = subst (λ (h : Shown). ReadAs c.args.file.now h.net) (sym c.of-net.ensures) c.in_ok-open_file.ensures.ok.file in
    node_missing o _ c.node_count-n.ensures.count c.if-v-n.false
