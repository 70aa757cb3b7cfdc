-- The loop's invariant: the wires to the first p operands are laid. After it there are none up to the next entry.
use mathlib.Core.Path.{◌≡◌, refl, sym, ap, subst, ◌∙◌}
use Prim.Native.Nat.{ℕ, ◌+◌, ◌*◌, ◌<◌}
use native.Mathlib.Omega.{arith}
use Rattle.netlist.specs.Net.{element_at, operands}
use Rattle.plan.specs.Registers.{entry_count}
use Rattle.plan.specs.Retiming.{net_of, timing_of}
use Rattle.plan.specs.OperandAt.{owner_is}
use Rattle.plan.specs.RegistersLaws.{laid_at, owner_same, owner_inside, laid-rest, planning_as, laid_over, wire_read}
use Rattle.plan.proofs.registers.lay_entry.Goals as goal

pub source_count-p-end-requires : goal.source_count-p-end-requires
source_count-p-end-requires c =
    let q = c.requires in
    let r = c.args.from.now in
    let h : c.args.e < entry_count (net_of r) (timing_of r) = omega (arith, q.entries, q.entry) in
    owner_inside (net_of r) _ h q.laid (owner_is (net_of r) _ h c.args.plan.now q.planned.few refl)

pub loop-p-init : goal.loop-p-init
loop-p-init c = record { firsts = refl; laid = laid_at (let z : 3 * c.args.e ≡ 3 * c.args.e + 0 = omega arith in z) c.requires.laid }

pub returns-then-total-gt1024-clause-exact : goal.returns-then-total-gt1024-clause-exact
returns-then-total-gt1024-clause-exact c = λ g. absurd (omega (arith, c.if-total-gt1024.true))

pub returns-then-total-gt1024-clause-over : goal.returns-then-total-gt1024-clause-over
returns-then-total-gt1024-clause-over c = laid_over (net_of c.args.from.now) _ c.loop-p.invariant.laid (omega (arith, c.requires.entries, c.requires.entry, c.loop-p-test.true, c.source_count-p-end.ensures.few))

pub lay_wire-total-requires-clause-planned : goal.lay_wire-total-requires-clause-planned
lay_wire-total-requires-clause-planned c = planning_as c.loop-p.invariant.firsts c.requires.planned

pub lay_wire-total-requires-clause-wire : goal.lay_wire-total-requires-clause-wire
lay_wire-total-requires-clause-wire c =
    let q = c.requires in
    let r = c.args.from.now in
    let h : c.args.e < entry_count (net_of r) (timing_of r) = omega (arith, q.entries, q.entry) in
    let i = c.loop-p.invariant in
    let owner = owner_is (net_of r) _ h c.args.plan.now q.planned.few refl ∙ owner_same (net_of r) _ h q.laid i.laid in
    let there = subst (λ (v : ℕ). c.loop-p.p < operands (element_at (net_of r) v)) owner (omega (arith, c.source_count-p-end.ensures.count, c.loop-p-test.true)) in
    wire_read r.wires.now c.loop-p.plan (planning_as i.firsts q.planned) i.laid q.entries q.entry there (owner ∙ sym (owner_is (net_of r) _ h c.loop-p.plan q.planned.few refl))

pub loop-p-preserved : goal.loop-p-preserved
loop-p-preserved c =
    let e : ℕ = c.args.e in
    let p : ℕ = c.loop-p.p in
    let r = c.lay_wire-total.ensures in
    record { firsts = r.firsts ∙ c.loop-p.invariant.firsts; laid = laid_at (let z : 3 * e + p + 1 ≡ 3 * e + (p + 1) = omega arith in z) r.laid }

pub returns-clause-exact : goal.returns-clause-exact
returns-clause-exact c =
    let q = c.requires in
    let r = c.args.from.now in
    let h : c.args.e < entry_count (net_of r) (timing_of r) = omega (arith, q.entries, q.entry) in
    let i = c.loop-p.invariant.laid in
    let n = c.source_count-p-end in
    let z : c.loop-p.p ≡ n.result = omega (arith, c.loop-p-test.false) in
    let owner = owner_is (net_of r) _ h c.args.plan.now q.planned.few refl ∙ owner_same (net_of r) _ h q.laid i in
    λ g. laid-rest (net_of r) _ h (z ∙ n.ensures.count ∙ ap (λ (v : ℕ). operands (element_at (net_of r) v)) owner) i

pub returns-clause-over : goal.returns-clause-over
returns-clause-over c = laid_over (net_of c.args.from.now) _ c.loop-p.invariant.laid (omega (arith, c.requires.entries, c.requires.entry, c.source_count-p-end.ensures.few))
