use Rattle.std.proofs.Common.{ℕ, ap, ◌∙◌, arith}
use Rattle.lists.specs.Lists.{largest}
use Rattle.behaviour.specs.Run.{zero_word}
use Rattle.retiming.specs.Gates.{steers_of}
use Rattle.retiming.specs.Modes.{mode_timing}
use Rattle.steering.specs.ChainLaws.{largest-more, chain_is}
use Rattle.steering.proofs.chain.chain_length.Goals as goal

pub loop-x-preserved : goal.loop-x-preserved
loop-x-preserved c =
    let N = c.args.net.now.net in
    let most = c.loop-x.invariant.most in
    record { most = largest-more (steers_of N (mode_timing c.args.mode N) (zero_word N)) c.loop-x.x most c.steers_of.ensures.steers c.max-most.ensures; few = omega arith }

pub returns-clause-chain : goal.returns-clause-chain
returns-clause-chain c =
    let N = c.args.net.now.net in
    let f = mode_timing c.args.mode N in
    c.loop-x.invariant.most ∙ ap (λ (k : ℕ). largest k (steers_of N f (zero_word N))) (omega (arith, c.loop-x-test.false, c.node_count-n.ensures.count)) ∙ chain_is N f
