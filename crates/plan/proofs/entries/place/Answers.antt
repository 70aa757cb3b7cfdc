-- By the element: a ROM, a register, or any other.
use mathlib.Core.Path.{◌≡◌, refl, sym, ◌∙◌}
use Prim.Native.Nat.{◌*◌}
use native.Mathlib.Omega.{arith}
use Rattle.lists.proofs.Sections.{section-read}
use Rattle.netlist.specs.Net.{size}
use Rattle.wiring.specs.Links.{chained_as}
use Rattle.plan.specs.Retiming.{net_of}
use Rattle.plan.specs.EntriesLaws.{entries_register, entries_plain, placing_more, placing_as, placing_count, rom_placed, owners_room, words_room}
use Rattle.plan.proofs.entries.place.Goals as goal

pub add_copies-requires-clause-chained : goal.add_copies-requires-clause-chained
add_copies-requires-clause-chained c =
    let a = c.args in
    let q = c.requires in
    chained_as (omega (arith, c.node_count-all.ensures.count)) (sym (section-read 9216 1024 a.from.now.wires.now a.u (omega (arith, q.node, c.bounds.ensures.nodes)))) (q.linked a.u q.node (sym c.is_memory.ensures ∙ c.if-is_memory.true))

pub returns-then-is_memory-clause-placed : goal.returns-then-is_memory-clause-placed
returns-then-is_memory-clause-placed c =
    let q = c.requires in
    let e : 3 * c.node_count-all.result ≡ 3 * size (net_of c.args.from.now) = omega (arith, c.node_count-all.ensures.count) in
    rom_placed (net_of c.args.from.now) _ q.node (sym q.stays) refl (sym c.is_memory.ensures ∙ c.if-is_memory.true) q.words e q.count q.placed c.add_copies.ensures.adds

pub returns-then-is_register-clause-placed : goal.returns-then-is_register-clause-placed
returns-then-is_register-clause-placed c =
    placing_as refl refl (entries_register (net_of c.args.from.now) _ c.args.u refl (sym c.requires.stays) (sym c.is_register.ensures ∙ c.if-is_register.true)) c.requires.placed

pub returns-else-is_register-clause-placed : goal.returns-else-is_register-clause-placed
returns-else-is_register-clause-placed c =
    let a = c.args in
    let q = c.requires in
    let e = c.add_entry.ensures in
    let p = a.plan.now in
    placing_count e.count (placing_as e.put.owners e.put.words (entries_plain (net_of a.from.now) _ a.u refl (sym q.stays) (sym c.is_memory.ensures ∙ c.if-is_memory.false) (sym c.is_register.ensures ∙ c.if-is_register.false))
    (placing_more q.placed (owners_room p c.told-plan) (words_room p c.told-plan) a.u 0))
