-- One wire more, with its registers.
use mathlib.Core.Path.{refl, ◌∙◌}
use Prim.Native.Nat.{◌+◌, ◌*◌}
use native.Mathlib.Omega.{arith}
use Rattle.wiring.specs.WiringLaws.{lead_few}
use Rattle.plan.specs.RegistersPut.{source-put}
use Rattle.plan.specs.RegistersLaws.{wire_laid}
use Rattle.plan.proofs.registers.lay_wire.Goals as goal

pub put_registers-last-requires-clause-lead : goal.put_registers-last-requires-clause-lead
put_registers-last-requires-clause-lead c = lead_few c.requires.planned.ready c.args.x c.requires.wire.inside

pub returns-clause-laid : goal.returns-clause-laid
returns-clause-laid c =
    let q = c.requires in
    let a = c.args in
    let p = c.put_registers-last in
    (wire_laid a.from.now.wires.now a.plan.now q.planned q.laid q.entries (omega (arith, q.wire.entry, q.entries)) q.wire.operand q.wire.reader p.new.plan _ refl c.source-s.ensures.source refl refl c.find_from-source.ensures c.count_on-count.ensures.count refl c.origin_of-origin.ensures.origin (p.ensures.puts, p.ensures.words, p.ensures.firsts) p.array_long refl p.ensures.last).0

pub returns-clause-firsts : goal.returns-clause-firsts
returns-clause-firsts c = (source-put c.put_registers-last.new.plan _ (3 * c.args.to.e + c.args.to.p) c.put_registers-last.result c.requires.wire.new refl).4 ∙ c.put_registers-last.ensures.firsts
