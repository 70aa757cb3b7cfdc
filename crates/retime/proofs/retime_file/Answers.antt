-- What opening tells, and the retiming of the netlist.
use mathlib.Core.Path.{sym, ap, subst, ◌∙◌}
use native.Mathlib.Omega.{arith}
use Rattle.std.proofs.lemmas.Result.{err_from_is_err_and}
use Rattle.codec.specs.Bytes.{Bytes}
use Rattle.circuit.specs.Shown.{Shown}
use Rattle.netlist.specs.Checks.{WellFormed}
use Rattle.evaluate.specs.Clock.{Inside}
use Rattle.retiming.specs.Modes.{mode_verdict}
use Rattle.checks.specs.Open.{open_shown}
use Rattle.checks.specs.Opens.{open_formed, open_inside}
use Rattle.retime.proofs.LayingLaws.{file-refused, opened_verdict}
use Rattle.retime.proofs.retime_file.Goals as goal

pub returns-in_err-open_file-clause-verdict : goal.returns-in_err-open_file-clause-verdict
returns-in_err-open_file-clause-verdict c =
    let p = err_from_is_err_and c.from_residual.result c.from_residual.ensures.1 in
    rw (p.1, p.2) (file-refused c.args.mode c.args.file.now c.in_err-open_file.ensures.err)

pub retime_opened-requires-clause-formed : goal.retime_opened-requires-clause-formed
retime_opened-requires-clause-formed c =
    let bytes : Bytes c.args.file.now = λ i. omega (arith, c.type_inv.file i) in
    subst (λ (h : Shown). WellFormed h.net) (sym c.of.ensures) (open_formed bytes (open_shown c.in_ok-open_file.ensures.ok))

pub retime_opened-requires-clause-inside : goal.retime_opened-requires-clause-inside
retime_opened-requires-clause-inside c =
    let bytes : Bytes c.args.file.now = λ i. omega (arith, c.type_inv.file i) in
    subst (λ (h : Shown). Inside h.net) (sym c.of.ensures) (open_inside bytes (open_shown c.in_ok-open_file.ensures.ok))

pub returns-clause-verdict : goal.returns-clause-verdict
returns-clause-verdict c =
    c.retime_opened.ensures.verdict ∙ ap (λ (h : Shown). mode_verdict c.args.mode h.net) c.of.ensures ∙ opened_verdict c.args.mode (open_shown c.in_ok-open_file.ensures.ok)
