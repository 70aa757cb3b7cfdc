-- The number, or 0.
use Rattle.std.proofs.Common.{◌+◌, ◌*◌, Bool, cond, get_or, sym, ap, ◌∙◌, lt-ltb}
use Rattle.plan.specs.Areas.{sources_in}
use Rattle.layout.specs.PlannedNode.{source-read}
use Rattle.layout.proofs.read_by.Goals as goal

pub returns-then-p-n : goal.returns-then-p-n
returns-then-p-n c =
    let a = c.args in
    let h = c.requires in
    source-read a.plan.now a.i a.p h.node h.operand
    ∙ sym (ap (λ (b : Bool). cond b (get_or (sources_in a.plan.now) (3 * a.i + a.p) 0) 0) (lt-ltb a.p a.n c.if-p-n.true))
