-- By the one test.
use mathlib.Core.Path.{ap, ◌∙◌}
use Rattle.netlist.specs.declared.Answer.TheVariants.{Accepted}
use Rattle.evaluate.specs.declared.Row.TheVariants.{State}
use Rattle.behaviour.proofs.Parts.{filled}
use Rattle.run.proofs.Outcomes.{row_room, row_other, reset_done, reset_refused}
use Rattle.run.proofs.reset_opened.Goals as goal

pub returns-then-state-count : goal.returns-then-state-count
returns-then-state-count c =
    let N = c.args.net.now.net in
    let st = c.args.state.now in
    let m = c.row_members-count.ensures in
    let o = filled (reset_refused N st (row_other N State _ m.members m.few st c.if-state-count.true)) in
    record {
      answer = o.0;
      state = o.1;
    }

pub returns : goal.returns
returns c =
    let N = c.args.net.now.net in
    let st = c.args.state.now in
    let m = c.row_members-count.ensures in
    let o = filled (reset_done N st (row_room N State _ m.members m.few st c.if-state-count.false)) in
    record {
      answer = ap Accepted c.store_reset.auto.state ∙ o.0;
      state = c.store_reset.ensures ∙ o.1;
    }
