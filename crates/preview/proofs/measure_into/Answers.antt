-- The refusal; or the list is held against what is counted, and only then written.
use Rattle.std.proofs.Common.{◌∙◌, ap, sym, subst, arith}
use Rattle.std.proofs.lemmas.Result.{err_from_is_err_and}
use Rattle.circuit.specs.Shown.{Shown}
use Rattle.retiming.specs.RegistersLast.{RegistersLast}
use Rattle.preview.specs.Previewing.{previewed_as, sources_are, too_short, long_enough, laid_none, laid_last, laid-fits}
use Rattle.preview.proofs.measure_into.Goals as goal

pub returns-in_err-lead-clause-preview : goal.returns-in_err-lead-clause-preview
returns-in_err-lead-clause-preview c =
    let p = err_from_is_err_and c.from_residual.result c.from_residual.ensures.1 in
    rw (p.1, p.2) (previewed_as (laid_none c.args.file.now c.args.list.now c.in_err-lead.ensures.verdict)).0

pub returns-in_err-lead-clause-list : goal.returns-in_err-lead-clause-list
returns-in_err-lead-clause-list c = (previewed_as (laid_none c.args.file.now c.args.list.now c.in_err-lead.ensures.verdict)).1

pub returns-then-list-sources : goal.returns-then-list-sources
returns-then-list-sources c =
    let e = c.in_ok-lead.ensures in
    let z = c.measure-size in
    let l = c.args.list.now in
    let laid = ap (λ (h : Shown). h.net) c.of-new.ensures ∙ e.net in
    let r = previewed_as (too_short _ _ z.result z.ensures l c.if-list-sources.true ∙ laid-fits c.args.file.now e.verdict laid e.lead l) in record {
      preview = r.0;
      list = r.1;
    }

pub list_sources-requires-clause-last : goal.list_sources-requires-clause-last
list_sources-requires-clause-last c =
    let e = c.in_ok-lead.ensures in
    let M = c.of-new.result.net in
    let z = c.measure-size in
    let laid = ap (λ (h : Shown). h.net) c.of-new.ensures ∙ e.net in
    subst (RegistersLast M) (sym (sources_are M _ z.result z.ensures)) (laid_last c.args.file.now e.verdict laid (λ i. omega (arith, c.type_inv.file i)))

pub returns : goal.returns
returns c =
    let e = c.in_ok-lead.ensures in
    let z = c.measure-size in
    let l = c.args.list.now in
    let laid = ap (λ (h : Shown). h.net) c.of-new.ensures ∙ e.net in
    let r = previewed_as (long_enough _ _ z.result z.ensures l c.if-list-sources.false c.list_sources.ensures ∙ laid-fits c.args.file.now e.verdict laid e.lead l) in record {
      preview = r.0;
      list = r.1;
    }
