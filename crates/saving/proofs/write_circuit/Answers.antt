use native.Mathlib.Omega.{arith}
use Rattle.saving.specs.Encoded.{carrying_none, carried, carrying_more, file-written}
use Rattle.saving.proofs.write_circuit.Goals as goal

pub loop-k-init : goal.loop-k-init
loop-k-init c = let a = c.args in carrying_none a.net.now.net

pub put_field-at-requires-clause-here : goal.put_field-at-requires-clause-here
put_field-at-requires-clause-here c = carried c.args.net.now.net c.loop-k.invariant

pub loop-k-preserved : goal.loop-k-preserved
loop-k-preserved c =
    carrying_more c.args.net.now.net c.loop-k.invariant (omega (arith, c.loop-k-test.true, c.field_count-fields.ensures.length)) c.put_field-at.auto.out c.put_field-at.ensures.put

pub returns : goal.returns
returns c =
    let all = file-written c.args.net.now.net c.loop-k.invariant (omega (arith, c.loop-k-test.false, c.field_count-fields.ensures.length)) in
    record {
      length = all.0;
      out = all.1;
    }
