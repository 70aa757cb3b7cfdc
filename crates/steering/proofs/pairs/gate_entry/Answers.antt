use Rattle.std.proofs.Common.{◌≡◌, ℕ, ◌+◌, ◌*◌, arith}
use Rattle.steering.specs.Gating.{net_of}
use Rattle.steering.specs.GatesArea.{gate-read, gates_at}
use Rattle.steering.specs.SteeringLaws.{gates_over}
use Rattle.steering.proofs.EntryLaws.{owner_inside, node_now, operand_now, entry_done}
use Rattle.steering.proofs.pairs.gate_entry.Goals as goal

pub source_count-n-requires : goal.source_count-n-requires
source_count-n-requires c = let q = c.requires in owner_inside c.args.plan.now q.gates q.counted.entries q.counted.few q.entry

pub loop-p-init : goal.loop-p-init
loop-p-init c = let e : ℕ = c.args.e in gates_at (let z : 3 * e ≡ 3 * e + 0 = omega arith in z) c.requires.gates

pub returns-then-total-gt1024-clause-gates : goal.returns-then-total-gt1024-clause-gates
returns-then-total-gt1024-clause-gates c few = absurd (omega (arith, few, c.if-total-gt1024.true))

pub returns-then-total-gt1024-clause-over : goal.returns-then-total-gt1024-clause-over
returns-then-total-gt1024-clause-over c =
    gates_over (net_of c.args.from.now) _ c.loop-p.invariant (omega (arith, c.requires.counted.entries, c.loop-p-test.true, c.source_count-n.ensures.few))

pub gate_wire-total-requires-clause-node : goal.gate_wire-total-requires-clause-node
gate_wire-total-requires-clause-node c = let q = c.requires in node_now c.args.plan.now q.gates q.counted.entries q.counted.few q.entry c.loop-p.plan c.loop-p.invariant

pub gate_wire-total-requires-clause-operand : goal.gate_wire-total-requires-clause-operand
gate_wire-total-requires-clause-operand c =
    let q = c.requires in
    operand_now c.args.plan.now q.gates q.counted.entries q.counted.few q.entry c.loop-p.plan c.loop-p.invariant c.source_count-n.ensures.count c.loop-p-test.true

pub gate_wire-total-requires-clause-wire : goal.gate_wire-total-requires-clause-wire
gate_wire-total-requires-clause-wire c =
    let q = c.requires in
    let more = c.loop-p.plan in
    let d = c.loop-p.invariant in
    gate-read more q.timed d q.counted.entries q.entry
    (operand_now c.args.plan.now q.gates q.counted.entries q.counted.few q.entry more d c.source_count-n.ensures.count c.loop-p-test.true)
    (node_now c.args.plan.now q.gates q.counted.entries q.counted.few q.entry more d)

pub loop-p-preserved : goal.loop-p-preserved
loop-p-preserved c =
    let e : ℕ = c.args.e in
    let p : ℕ = c.loop-p.p in
    gates_at (let z : 3 * e + p + 1 ≡ 3 * e + (p + 1) = omega arith in z) c.gate_wire-total.ensures.gates

pub returns-clause-gates : goal.returns-clause-gates
returns-clause-gates c _ =
    let q = c.requires in
    entry_done c.args.plan.now q.gates q.counted.entries q.counted.few q.entry c.loop-p.plan c.loop-p.invariant c.source_count-n.ensures.count (omega (arith, c.loop-p-test.false))

pub returns-clause-over : goal.returns-clause-over
returns-clause-over c = gates_over (net_of c.args.from.now) _ c.loop-p.invariant (omega (arith, c.requires.counted.entries, c.source_count-n.ensures.few))
