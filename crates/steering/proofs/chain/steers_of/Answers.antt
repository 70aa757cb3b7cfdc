use Rattle.std.proofs.Common.{ℕ, sym, ap, ◌∙◌, arith}
use Rattle.lists.specs.Lists.{largest}
use Rattle.behaviour.specs.Run.{zero_word}
use Rattle.retiming.specs.Gates.{steers_on}
use Rattle.retiming.specs.Modes.{mode_timing}
use Rattle.wiring.specs.WiringLaws.{operand_inside}
use Rattle.steering.specs.ChainLaws.{steers_from, steers_from_lem, steers_of_lem, largest-more}
use Rattle.steering.proofs.chain.steers_of.Goals as goal

pub steers_on-requires-clause-source : goal.steers_on-requires-clause-source
steers_on-requires-clause-source c =
    let N = c.args.net.now.net in
    operand_inside N (mode_timing c.args.mode N) c.requires.timed.formed.sourced c.requires.reader (omega (arith, c.wires_to-n.ensures.count, c.loop-p-test.true)) c.source-s.ensures.source

pub loop-p-preserved : goal.loop-p-preserved
loop-p-preserved c =
    let x : ℕ = c.args.x in
    let N = c.args.net.now.net in
    let f = mode_timing c.args.mode N in
    let here = c.steers_on.ensures.steers ∙ ap (steers_from N f x) c.source-s.ensures.source ∙ sym (steers_from_lem N f x c.loop-p.p) in
    record { most = largest-more (steers_on N f (zero_word N) x) c.loop-p.p c.loop-p.invariant.most here c.max-most.ensures; few = omega arith }

pub returns-clause-steers : goal.returns-clause-steers
returns-clause-steers c =
    let x : ℕ = c.args.x in
    let N = c.args.net.now.net in
    let f = mode_timing c.args.mode N in
    c.loop-p.invariant.most ∙ ap (λ (k : ℕ). largest k (steers_on N f (zero_word N) x)) (omega (arith, c.loop-p-test.false, c.wires_to-n.ensures.count)) ∙ steers_of_lem N f x
