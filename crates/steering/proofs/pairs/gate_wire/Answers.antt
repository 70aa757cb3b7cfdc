-- No gates, or so many.
use Rattle.std.proofs.Common.{refl, arith}
use Rattle.wiring.specs.WiringLaws.{lead_few}
use Rattle.steering.specs.GatesArea.{wire_ungated, wire_gated}
use Rattle.steering.proofs.pairs.gate_wire.Goals as goal

pub returns-then-count-eq0-clause-gates : goal.returns-then-count-eq0-clause-gates
returns-then-count-eq0-clause-gates c =
    let q = c.requires in
    wire_ungated c.args.plan.now q.timed q.gates q.counted.entries q.entry q.operand q.node c.source-s.ensures.source c.shown_on-count.ensures.shown c.if-count-eq0.true

pub put_pairs-requires-clause-clock : goal.put_pairs-requires-clause-clock
put_pairs-requires-clause-clock c = omega (arith, lead_few c.requires.timed c.args.x c.requires.wire.inside)

pub returns-clause-gates : goal.returns-clause-gates
returns-clause-gates c =
    let q = c.requires in
    let p = c.put_pairs in
    wire_gated c.args.plan.now q.timed q.gates q.counted.entries q.entry q.operand q.node c.source-s.ensures.source c.shown_on-count.ensures.shown c.if-count-eq0.false p.new.plan _ refl refl c.origin_of-origin.ensures.origin
    q.counted.wired (omega (arith, c.saturating_sub.ensures)) c.saturating_sub-clock.ensures (p.ensures.pairs, p.ensures.words) p.array_long refl refl
