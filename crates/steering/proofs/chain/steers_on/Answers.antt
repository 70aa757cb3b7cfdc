-- None where there are no gates.
use native.Mathlib.Omega.{arith}
use Rattle.steering.specs.ChainLaws.{steers_zero, steers_read}
use Rattle.steering.proofs.chain.steers_on.Goals as goal

pub returns-then-shown-eq0-clause-steers : goal.returns-then-shown-eq0-clause-steers
returns-then-shown-eq0-clause-steers c = let a = c.args in steers_zero a.net.now.net _ a.x a.s c.shown_on-shown.ensures.shown c.if-shown-eq0.true

pub returns-clause-steers : goal.returns-clause-steers
returns-clause-steers c =
    let a = c.args in
    omega (arith, steers_read a.net.now.net _ a.x a.s c.shown_on-shown.ensures.shown c.if-shown-eq0.false c.origin_of.ensures.origin (c.requires.timed.leads_in a.x c.requires.reader))
