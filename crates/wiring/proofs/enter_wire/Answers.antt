-- One wire more.
use mathlib.Core.Path.{◌≡◌, refl, sym, ap, ap₂, subst, ◌∙◌}
use Prim.Native.Nat.{ℕ, ◌+◌, ◌*◌, ◌<◌, ◌/◌, ◌%◌}
use native.Mathlib.Omega.{arith}
use lib.ListN.{get_or}
use Rattle.netlist.specs.Net.{source}
use Rattle.retiming.specs.Rewrite.{Timing, root}
use Rattle.retiming.specs.Modes.{mode_timing}
use Rattle.wiring.specs.Wiring.{wire_count, count_from, asked_clock, source_of, last_clock}
use Rattle.wiring.specs.WiringLaws.{root_inside, is_root, lead_few, root-read, entered_more, heads_kept, wire_there, operand_inside, rom_at, last_is}
use Rattle.wiring.proofs.enter_wire.Goals as goal

pub bounds-timing-s : goal.bounds-timing-s
bounds-timing-s c =
    let p = c.requires in
    omega (arith, operand_inside _ _ p.timed.formed.sourced p.reader p.wire c.source-s.ensures.source)

pub count_on-requires-clause-source : goal.count_on-requires-clause-source
count_on-requires-clause-source c =
    let p = c.requires in
    operand_inside _ _ p.timed.formed.sourced p.reader p.wire c.source-s.ensures.source

pub rom_clock-taken-requires-clause-node : goal.rom_clock-taken-requires-clause-node
rom_clock-taken-requires-clause-node c =
    let p = c.requires in
    let h = operand_inside _ _ p.timed.formed.sourced p.reader p.wire c.source-s.ensures.source in
    root_inside p.timed h (root-read p.timed h)

pub rom_clock-taken-requires-clause-clock : goal.rom_clock-taken-requires-clause-clock
rom_clock-taken-requires-clause-clock c = omega (arith, c.count_on.ensures.few, lead_few c.requires.timed c.args.x c.requires.reader)

pub returns-clause-entered : goal.returns-clause-entered
returns-clause-entered c =
    let a = c.args in
    let N = a.net.now.net in
    let q = c.requires in
    let t = q.timed in
    let f : Timing = mode_timing a.mode N in
    let k : ℕ = 3 * a.x + a.p in
    let b : k / 3 ≡ a.x = omega (arith, q.few) in
    let d : k % 3 ≡ a.p = omega (arith, q.few) in
    let g = wire_there N f k (subst (λ (i : ℕ). i < wire_count N f (k / 3)) (sym d) (subst (λ (y : ℕ). a.p < wire_count N f y) (sym b) q.wire)) in
    let from = c.source-s.ensures.source in
    let s : c.source-s.result ≡ source_of N k = from ∙ sym (ap₂ (source N) b d) in
    let h = operand_inside N f t.formed.sourced q.reader q.wire from in
    let l : get_or a.timing.now a.x 0 ≡ f.lead (k / 3) = t.leads_in a.x q.reader ∙ ap f.lead (sym b) in
    let u : get_or a.timing.now (1024 + c.source-s.result) 0 ≡ root N (source_of N k) = is_root t h (root-read t h) ∙ ap (root N) s in
    let clock : ℕ = c.count_on.result + get_or a.timing.now a.x 0 in
    let z : clock ≡ last_clock N f k = last_is N f k refl (c.count_on.ensures.count ∙ ap (λ (y : ℕ). count_from N f y c.source-s.result) (sym b)) l s in
    let small : clock < 65534 = omega (arith, c.count_on.ensures.few, lead_few t a.x q.reader) in
    let r = c.rom_clock-taken.ensures ∙ rom_at N _ (root N (source_of N k)) (asked_clock f.origin clock) u in
    (entered_more a.wires.now q.entered c.told-wires (omega (arith, c.bounds.ensures.nodes, q.reader, q.few)) g u s z small r refl refl refl).0

pub returns-clause-heads : goal.returns-clause-heads
returns-clause-heads c = heads_kept c.args.wires.now (3 * c.args.x + c.args.p) _ _ _ (omega (arith, c.bounds.ensures.nodes, c.requires.reader, c.requires.few))
