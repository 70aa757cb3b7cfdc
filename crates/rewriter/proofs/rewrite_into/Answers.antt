-- The refusal; or the length is counted, and only then is what is laid written. The answer is the last offset.
use Rattle.std.proofs.Common.{◌∙◌, ap, arith}
use Rattle.std.proofs.lemmas.Result.{err_from_is_err_and}
use Rattle.netlist.specs.declared.Answer.TheVariants.{Accepted}
use Rattle.circuit.specs.Shown.{Shown}
use Rattle.rewriter.specs.Rewriting.{rewrote, too_short, long_enough, laid_none, laid-written}
use Rattle.rewriter.proofs.rewrite_into.Goals as goal

pub returns-in_err-retime_file-clause-answer : goal.returns-in_err-retime_file-clause-answer
returns-in_err-retime_file-clause-answer c =
    let p = err_from_is_err_and c.from_residual.result c.from_residual.ensures.1 in
    rw (p.1, p.2) (rewrote (laid_none c.args.mode c.args.file.now c.args.out.now c.in_err-retime_file.ensures.verdict)).0

pub returns-in_err-retime_file-clause-out : goal.returns-in_err-retime_file-clause-out
returns-in_err-retime_file-clause-out c = (rewrote (laid_none c.args.mode c.args.file.now c.args.out.now c.in_err-retime_file.ensures.verdict)).1

pub returns-then-out-length : goal.returns-then-out-length
returns-then-out-length c =
    let e = c.in_ok-retime_file.ensures in
    let l = c.args.out.now in
    let laid = ap (λ (h : Shown). h.net) c.of-new.ensures ∙ e.net in
    let r = rewrote (too_short _ l (omega (arith, c.if-out-length.true, c.circuit_length-length.ensures)) ∙ laid-written c.args.mode c.args.file.now l e.verdict laid) in record {
      answer = r.0;
      out = r.1;
    }

pub returns : goal.returns
returns c =
    let e = c.in_ok-retime_file.ensures in
    let l = c.args.out.now in
    let laid = ap (λ (h : Shown). h.net) c.of-new.ensures ∙ e.net in
    let w = c.write_circuit.ensures in
    let r = rewrote (long_enough _ l (omega (arith, c.if-out-length.false, c.circuit_length-length.ensures)) ∙ laid-written c.args.mode c.args.file.now l e.verdict laid) in record {
      answer = ap Accepted w.length ∙ r.0;
      out = w.out ∙ r.1;
    }
