-- What opening tells, and the reset over the netlist.
use Rattle.std.proofs.Common.{sym, subst, ◌∙◌}
use Rattle.std.proofs.lemmas.Result.{err_from_is_err_and}
use Rattle.circuit.specs.Shown.{Shown}
use Rattle.checks.specs.Open.{OpenedAs, open_shown}
use Rattle.behaviour.proofs.Parts.{filled}
use Rattle.run.proofs.Opened.{reset_turned_away, reset_taken}
use Rattle.run.proofs.open_and_reset.Goals as goal

pub returns-in_err-open_file : goal.returns-in_err-open_file
returns-in_err-open_file c =
    let p = err_from_is_err_and c.from_residual.result c.from_residual.ensures.1 in
    let o = filled (reset_turned_away _ c.args.state.now c.in_err-open_file.ensures.err) in
    record {
      answer = rw (p.1, p.2) o.0;
      state = o.1;
    }

pub of-net-requires : goal.of-net-requires
of-net-requires c = c.in_ok-open_file.ensures.ok.circuit

pub returns : goal.returns
returns c =
    let o = filled (reset_taken (subst (λ (h : Shown). OpenedAs c.args.file.now h) (sym c.of-net.ensures) (open_shown c.in_ok-open_file.ensures.ok)) c.args.state.now) in
    record {
      answer = c.reset_opened.ensures.answer ∙ o.0;
      state = c.reset_opened.ensures.state ∙ o.1;
    }
