-- The loop's invariant: the entries of the first u nodes are placed.
use mathlib.Core.Path.{refl, sym, ◌∙◌}
use Prim.Native.Nat.{◌+◌, ◌<◌}
use Rattle.std.proofs.Common.{length-set}
use native.Mathlib.Omega.{arith}
use Rattle.plan.specs.Areas.{firsts_in}
use Rattle.plan.specs.Retiming.{net_of}
use Rattle.plan.specs.EntriesLaws.{placing_none, placed_over, placed_all}
use Rattle.plan.specs.PlacedTo.{placed_as, placing_put, placed_left, placed_next}
use Rattle.plan.proofs.entries.place_entries.Goals as goal
use Rattle.plan.proofs.entries.place_entries.Goals.{then-stays, else-stays}

pub loop-u-init : goal.loop-u-init
loop-u-init c = record { long = refl; few = omega arith; placing = placing_none (net_of c.args.from.now) _ _ _; firsts = λ h v l. absurd (omega arith); late = refl }

pub returns-then-count-gt1024-clause-placed : goal.returns-then-count-gt1024-clause-placed
returns-then-count-gt1024-clause-placed c =
    let l = c.loop-u in
    placed_over (net_of c.args.from.now) _ (firsts_in l.plan) l.invariant.placing (omega (arith, c.node_count-u-end.ensures.count)) c.if-count-gt1024.true

pub place-count-requires-clause-placed : goal.place-count-requires-clause-placed
place-count-requires-clause-placed c =
    placing_put c.loop-u.invariant c.if-count-gt1024.false (omega (arith, c.loop-u-test.true, c.node_count-u-end.ensures.few)) c.told-plan (length-set c.loop-u.plan _ _) refl

pub loop-u-preserved : goal.loop-u-preserved
loop-u-preserved c =
    let i = c.loop-u.invariant in
    let o = c.if-count-gt1024.false in
    let same = length-set c.loop-u.plan (3072 + c.loop-u.u) c.loop-u.count in
    let few : c.loop-u.u < 1024 = omega (arith, c.loop-u-test.true, c.node_count-u-end.ensures.few) in
    elim c.if-stays.branch [
      | then-stays g ↦ let r = g.place-count.ensures in placed_as g.plan-is g.count-is (placed_next i o few c.told-plan same refl (g.place-count.array_long ∙ sym (same ∙ i.long ∙ c.told-plan)) r.few r.placed r.late r.firsts)
      | else-stays g ↦ placed_as g.plan-is g.count-is (placed_left i o few c.told-plan same refl (sym g.if-stays.false ∙ c.stays.ensures))
    ]

pub returns-clause-placed : goal.returns-clause-placed
returns-clause-placed c =
    let l = c.loop-u in
    placed_all (net_of c.args.from.now) _ (firsts_in l.plan) l.invariant.placing (omega (arith, c.node_count-u-end.ensures.count, c.loop-u-test.false)) l.invariant.firsts
