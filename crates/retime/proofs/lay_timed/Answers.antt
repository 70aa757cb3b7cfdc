-- 13 by the plan and its gates, else laid.
use mathlib.Core.Path.{sym, ◌∙◌}
use mathlib.Core.List.{◌++◌}
use native.Mathlib.Omega.{arith}
use lib.ListN.{drop}
use lib.Seq.{length_front, length-take-le}
use Rattle.retime.proofs.LayingLaws.{says_13, says_fine, laid_as}
use Rattle.retime.proofs.lay_timed.Goals as goal

pub slice_bounds-make_plan-end-2 : goal.slice_bounds-make_plan-end-2
slice_bounds-make_plan-end-2 c = sym (length-take-le 10240 c.args.new.now (omega arith))

pub make_plan-made-requires-clause-wires : goal.make_plan-made-requires-clause-wires
make_plan-made-requires-clause-wires c = length-take-le 10240 c.args.new.now (omega arith)

pub returns-then-grown-clause-verdict : goal.returns-then-grown-clause-verdict
returns-then-grown-clause-verdict c = says_13 _ _ c.requires.new_is c.make_plan-made.ensures.mode (c.add_gates-steered.ensures.steering.over c.if-grown.true)

pub slice_bounds-reset_words-end-2 : goal.slice_bounds-reset_words-end-2
slice_bounds-reset_words-end-2 c =
    let wires = c.make_plan-made.new.wires in
    sym (length-take-le 7168 (wires ++ drop 10240 c.args.new.now) (omega (arith, length_front c.args.new.now wires 10240 c.make_plan-made.auto.wires)))

pub reset_words-requires-clause-queue : goal.reset_words-requires-clause-queue
reset_words-requires-clause-queue c =
    let wires = c.make_plan-made.new.wires in
    length-take-le 7168 (wires ++ drop 10240 c.args.new.now) (omega (arith, length_front c.args.new.now wires 10240 c.make_plan-made.auto.wires))

pub returns-clause-verdict : goal.returns-clause-verdict
returns-clause-verdict c =
    says_fine _ _ c.requires.new_is (c.add_gates-steered.ensures.mode ∙ c.make_plan-made.ensures.mode) (omega (arith, c.reset_words.ensures.count, c.if-grown.false))

pub returns-clause-net : goal.returns-clause-net
returns-clause-net c =
    let laid = c.lay_circuit.ensures in
    (laid_as _ _ c.requires.new_is (c.add_gates-steered.ensures.mode ∙ c.make_plan-made.ensures.mode) (laid.net, laid.circuit)).0
