-- None in the plain mode; else the chain, and the gates of all wires.
use mathlib.Core.Path.{sym}
use Prim.Native.Nat.{◌≤◌}
use native.Mathlib.Omega.{arith}
use Rattle.retiming.specs.Modes.{mode_timing}
use Rattle.retiming.proofs.ModeLaws.{origin_plain}
use Rattle.plan.specs.PlanLaws.{places-length}
use Rattle.steering.specs.SteeringLaws.{wired_is, gates_first, chain_nodes, steering_early, steering_over, steering_all}
use Rattle.steering.proofs.add_gates.Goals as goal

pub returns-then-made-gt1024-clause-steering : goal.returns-then-made-gt1024-clause-steering
returns-then-made-gt1024-clause-steering c = steering_over c.args.net.now.net _ c.args.plan.now c.requires.laid c.if-made-gt1024.true

pub gate_entries-total-requires-clause-counted : goal.gate_entries-total-requires-clause-counted
gate_entries-total-requires-clause-counted c =
    let N = c.args.net.now.net in
    let few : c.args.made.total ≤ 1024 = omega (arith, c.if-made-gt1024.false) in
    let e = c.requires.laid.exact few in
    let wired = wired_is e.2 few in
    record { entries = e.0; few = omega (arith, e.0, wired, places-length N (mode_timing c.args.made.mode N)); wired = wired }

pub gate_entries-total-requires-clause-gates : goal.gate_entries-total-requires-clause-gates
gate_entries-total-requires-clause-gates c =
    let N = c.args.net.now.net in
    let few : c.args.made.total ≤ 1024 = omega (arith, c.if-made-gt1024.false) in
    let e = c.requires.laid.exact few in
    let n = c.chain_nodes.ensures in
    gates_first e.2 few (omega (arith, wired_is e.2 few, chain_nodes N (mode_timing c.args.made.mode N) c.chain_length-chain.ensures.chain n.some n.none))

pub returns-in-Plain-clause-steering : goal.returns-in-Plain-clause-steering
returns-in-Plain-clause-steering c =
    let N = c.args.net.now.net in
    steering_early N _ c.args.plan.now (sym (origin_plain N c.in-Plain.is)) c.requires.laid (omega (arith, c.if-made-gt1024.false))

pub returns-in-Late-clause-steering : goal.returns-in-Late-clause-steering
returns-in-Late-clause-steering c =
    let N = c.args.net.now.net in
    let few : c.args.made.total ≤ 1024 = omega (arith, c.if-made-gt1024.false) in
    let e = c.requires.laid.exact few in
    steering_all N _ c.gate_entries-total.new.plan e.0 (wired_is e.2 few) c.chain_length-chain.ensures.chain c.gate_entries-total.ensures
