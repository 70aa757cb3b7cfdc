-- The first nodes are in the new circuit.
use Rattle.std.proofs.Common.{◌≡◌, refl, List, ℕ, subst, ap, ◌∙◌, arith}
use Rattle.circuit.specs.Circuit.{tables_of, net_of, Circuit}
use Rattle.circuit.specs.Building.{Built}
use Rattle.circuit.specs.Shown.{Shown}
use Rattle.circuit.proofs.Building.{building_none, building_size, building_more, building_done}
use Rattle.behaviour.specs.Run.{zero_word}
use Rattle.retiming.specs.Gates.{gated_with}
use Rattle.retiming.specs.Modes.{mode_timing}
use Rattle.retiming.proofs.Candidate.{size-new}
use Rattle.layout.specs.Laid.{new_node_lem, laid}
use Rattle.layout.proofs.lay_circuit.Goals as goal

pub loop-i-init : goal.loop-i-init
loop-i-init c = let k = c.copy_head.ensures in building_none _ (record { formed = k.formed; tables = refl; nodes = k.nodes })

pub push_row-requires-clause-formed : goal.push_row-requires-clause-formed
push_row-requires-clause-formed c = c.loop-i.invariant.built.formed

pub push_row-requires-clause-place : goal.push_row-requires-clause-place
push_row-requires-clause-place c = building_size c.loop-i.invariant

pub loop-i-preserved : goal.loop-i-preserved
loop-i-preserved c =
    let N = c.args.net.now.net in
    let f = mode_timing c.args.made.mode N in
    let count = c.requires.planned.count in
    let h = c.loop-i-test.true in
    let node = new_node_lem N f c.loop-i.i (omega (arith, h, count)) c.planned_row.ensures.1 in
    building_more c.loop-i.invariant (omega (arith, h, size-new N f (zero_word N), count)) node c.push_row.ensures

pub returns : goal.returns
returns c =
    let N = c.args.net.now.net in
    let f = mode_timing c.args.made.mode N in
    let p = c.parts in
    let b = building_done c.loop-i.invariant (omega (arith, c.loop-i-test.false, size-new N f (zero_word N), c.requires.planned.count)) in
    let built : Built (tables_of p.result.1.now) (gated_with N f (zero_word N)).nodes c.loop-i.new = record { formed = b.formed; tables = b.tables ∙ c.copy_head.ensures.tables; nodes = b.nodes } in
    let r = laid f (ap (λ (h : Shown). h.net) p.ensures.shown) p.ensures.circuit built in
    let s = ap (λ (h : Shown). h.file) p.ensures.shown in
    let new = c.loop-i.new in
    record {
      net = subst (λ (s : List ℕ). net_of s new ≡ gated_with N f (zero_word N)) s r.0;
      circuit = subst (λ (s : List ℕ). Circuit s new) s r.1;
    }
