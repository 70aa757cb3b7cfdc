-- The steps one after the other.
use mathlib.Core.Path.{ap}
use Prim.Native.Nat.{ℕ, ◌*◌}
use native.Mathlib.Omega.{arith}
use lib.ListN.{length}
use Rattle.plan.specs.PlanLaws.{entered_none, linked_first, links_made, wants_linked, planning_linked, laid_filled, plan_laid, many_entries}
use Rattle.plan.proofs.make_plan.Goals as goal

pub enter_wires-requires-clause-entered : goal.enter_wires-requires-clause-entered
enter_wires-requires-clause-entered c =
    let whole = rw c.unwrap-wires.ensures at c.as_mut_array.ensures.cases in
    entered_none c.args.net.now.net _ c.fill.new.self (c.fill.ensures.after (λ y q. q)) (omega (arith, ap length whole.same, c.requires.wires))

pub link_wires-requires-clause-linked : goal.link_wires-requires-clause-linked
link_wires-requires-clause-linked c =
    let whole = rw c.unwrap-wires.ensures at c.as_mut_array.ensures.cases in
    linked_first c.enter_wires.new.wires c.fill.new.self c.enter_wires.ensures.heads (c.fill.ensures.after (λ y q. q)) (omega (arith, ap length whole.same, c.requires.wires)) (omega (arith, c.node_count.ensures.few))

pub place_entries-entries-requires-clause-words : goal.place_entries-entries-requires-clause-words
place_entries-entries-requires-clause-words c =
    let e = c.enter_wires in
    wants_linked e.new.wires c.requires.timed e.ensures.entered e.array_long c.link_wires.new.wires c.link_wires.ensures.ends c.copied_words.ensures

pub place_entries-entries-requires-clause-linked : goal.place_entries-entries-requires-clause-linked
place_entries-entries-requires-clause-linked c =
    let e = c.enter_wires in
    links_made e.new.wires c.requires.timed e.ensures.entered e.array_long c.link_wires.new.wires c.link_wires.ensures.ends (ap (λ (n : ℕ). 3 * n) c.node_count.ensures.count) c.link_wires.ensures.linked

pub lay_wires-total-requires-clause-planned : goal.lay_wires-total-requires-clause-planned
lay_wires-total-requires-clause-planned c =
    let e = c.enter_wires in
    let r = c.place_entries-entries in
    planning_linked e.new.wires c.requires.timed e.ensures.entered e.array_long c.link_wires.new.wires c.link_wires.ensures.ends c.copied_words.ensures r.new.plan r.ensures.placed c.if-entries-gt1024.false

pub lay_wires-total-requires-clause-entries : goal.lay_wires-total-requires-clause-entries
lay_wires-total-requires-clause-entries c = (c.place_entries-entries.ensures.placed.exact c.if-entries-gt1024.false).0

pub lay_wires-total-requires-clause-laid : goal.lay_wires-total-requires-clause-laid
lay_wires-total-requires-clause-laid c =
    let e = c.enter_wires in
    let r = c.place_entries-entries in
    laid_filled e.new.wires c.requires.timed e.ensures.entered e.array_long r.new.plan c.fill-2.new.self r.ensures.placed c.if-entries-gt1024.false r.ensures.late (c.fill-2.ensures.after (λ y q. q)) c.copied_words.array_long

pub returns-then-entries-gt1024-clause-laid : goal.returns-then-entries-gt1024-clause-laid
returns-then-entries-gt1024-clause-laid c = many_entries c.args.net.now.net _ c.place_entries-entries.new.plan c.place_entries-entries.ensures.placed c.if-entries-gt1024.true

pub returns-else-entries-gt1024-clause-laid : goal.returns-else-entries-gt1024-clause-laid
returns-else-entries-gt1024-clause-laid c =
    let o = c.if-entries-gt1024.false in
    plan_laid c.args.net.now.net _ c.lay_wires-total.new.plan (c.place_entries-entries.ensures.placed.exact o).0 o c.lay_wires-total.ensures
