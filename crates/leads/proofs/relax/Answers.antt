-- The operands passed are served by the numbers as they were, if none was raised.
use mathlib.Core.Path.{refl}
use native.Mathlib.Omega.{arith}
use Rattle.leads.proofs.Relaxing.{raise_bit, source_inside, relax-more}
use Rattle.leads.proofs.relax.Goals as goal

pub is_async_rom-requires : goal.is_async_rom-requires
is_async_rom-requires c = source_inside _ c.requires.node c.source_count-p-end.ensures.count c.requires.sourced c.loop-p-test.true c.source-u.ensures.source

pub raise-raised-requires-clause-inside : goal.raise-raised-requires-clause-inside
raise-raised-requires-clause-inside c =
    omega (arith, source_inside _ c.requires.node c.source_count-p-end.ensures.count c.requires.sourced c.loop-p-test.true c.source-u.ensures.source)

pub loop-p-preserved : goal.loop-p-preserved
loop-p-preserved c =
    let p = c.requires in
    let k = c.loop-p.invariant in
    record {
      room = c.raise-raised.array_long;
      few = omega (arith, raise_bit c.raise-raised.ensures);
      progress = relax-more _ p.node c.source_count-p-end.ensures.count _ refl p.sourced c.if-own-eq0.false c.if-bound-own.false (omega arith) c.loop-p-test.true c.source-u.ensures.source c.is_async_rom.ensures c.is_register-taken.ensures k.progress c.raise-raised.ensures;
    }
