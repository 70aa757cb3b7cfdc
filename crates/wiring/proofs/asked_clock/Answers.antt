-- By where the origin is.
use mathlib.Core.Path.{sym}
use Rattle.wiring.specs.WiringLaws.{asked_before, asked-after}
use Rattle.wiring.proofs.asked_clock.Goals as goal

pub returns-then-n-origin : goal.returns-then-n-origin
returns-then-n-origin c = sym (asked_before c.if-n-origin.true)

pub returns-else-n-origin : goal.returns-else-n-origin
returns-else-n-origin c = sym (asked-after c.if-n-origin.false)
