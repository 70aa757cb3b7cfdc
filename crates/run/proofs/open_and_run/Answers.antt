-- What opening tells, and the run over the netlist.
use Rattle.std.proofs.Common.{sym, subst, ◌∙◌, arith}
use Rattle.std.proofs.lemmas.Result.{err_from_is_err_and}
use Rattle.circuit.specs.Shown.{Shown}
use Rattle.codec.specs.Bytes.{Bytes}
use Rattle.checks.specs.Open.{OpenedAs, open_shown}
use Rattle.checks.specs.Opens.{open_formed, open_inside}
use Rattle.behaviour.proofs.Parts.{ran}
use Rattle.run.proofs.Opened.{run_turned_away, run_taken}
use Rattle.run.proofs.open_and_run.Goals as goal

pub returns-in_err-open_file : goal.returns-in_err-open_file
returns-in_err-open_file c =
    let a = c.args in
    let p = err_from_is_err_and c.from_residual.result c.from_residual.ensures.1 in
    let o = ran (run_turned_away _ a.state.now a.inputs.now a.outputs.now c.in_err-open_file.ensures.err) in
    record {
      answer = rw (p.1, p.2) o.0;
      state = o.1;
      outputs = o.2;
    }

pub of-net-requires : goal.of-net-requires
of-net-requires c = c.in_ok-open_file.ensures.ok.circuit

pub run_opened-requires-clause-formed : goal.run_opened-requires-clause-formed
run_opened-requires-clause-formed c =
    let b : Bytes c.args.file.now = λ i. omega (arith, c.type_inv.file i) in
    open_formed b (subst (λ (h : Shown). OpenedAs c.args.file.now h) (sym c.of-net.ensures) (open_shown c.in_ok-open_file.ensures.ok))

pub run_opened-requires-clause-inside : goal.run_opened-requires-clause-inside
run_opened-requires-clause-inside c =
    let b : Bytes c.args.file.now = λ i. omega (arith, c.type_inv.file i) in
    open_inside b (subst (λ (h : Shown). OpenedAs c.args.file.now h) (sym c.of-net.ensures) (open_shown c.in_ok-open_file.ensures.ok))

pub run_opened-requires-clause-complete : goal.run_opened-requires-clause-complete
run_opened-requires-clause-complete c =
    let o = subst (λ (h : Shown). OpenedAs c.args.file.now h) (sym c.of-net.ensures) (open_shown c.in_ok-open_file.ensures.ok) in
    o.ordered

pub returns : goal.returns
returns c =
    let a = c.args in
    let r = c.run_opened.ensures in
    let o = ran (run_taken (subst (λ (h : Shown). OpenedAs a.file.now h) (sym c.of-net.ensures) (open_shown c.in_ok-open_file.ensures.ok)) a.state.now a.inputs.now a.outputs.now) in
    record {
      answer = r.answer ∙ o.0;
      state = r.state ∙ o.1;
      outputs = r.outputs ∙ o.2;
    }
