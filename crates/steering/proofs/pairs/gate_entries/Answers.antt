use Rattle.std.proofs.Common.{◌≡◌, ℕ, ◌+◌, ◌*◌, ⊎_elim, arith}
use Rattle.lists.proofs.BelowLaws.{lt_or_le}
use Rattle.steering.specs.Gating.{net_of}
use Rattle.steering.specs.GatesArea.{gates_at}
use Rattle.steering.specs.SteeringLaws.{gates_over, gates_all}
use Rattle.steering.proofs.pairs.gate_entries.Goals as goal

pub loop-e-init : goal.loop-e-init
loop-e-init c = record { gates = λ g. c.requires.gates; over = gates_over (net_of c.args.from.now) _ c.requires.gates (omega arith) }

pub loop-e-preserved : goal.loop-e-preserved
loop-e-preserved c =
    let e : ℕ = c.loop-e.e in
    let r = c.gate_entry-total.ensures in
    record { gates = λ g. gates_at (let z : 3 * e + 3 ≡ 3 * (e + 1) = omega arith in z) (r.gates g); over = r.over }

pub returns : goal.returns
returns c =
    let i = c.loop-e.invariant in
    ⊎_elim i.over (λ g. gates_all (net_of c.args.from.now) _ (i.gates g) (omega (arith, c.loop-e-test.false, c.requires.counted.entries))) (lt_or_le 1024 c.loop-e.total)
