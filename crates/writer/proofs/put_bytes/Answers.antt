-- Turn by turn one byte more is written.
use mathlib.Core.Path.{refl}
use native.Mathlib.Numerals.{add-one}
use native.Mathlib.Omega.{arith}
use lib.Seq.{take-suc}
use Rattle.writer.specs.Turn.{start, turns}
use Rattle.writer.proofs.put_bytes.Goals as goal

pub loop-i-init : goal.loop-i-init
loop-i-init c = start (omega arith)

pub loop-i-preserved : goal.loop-i-preserved
loop-i-preserved c =
    let turn = c.loop-i in
    let more = take-suc c.args.from.now turn.i 0 (omega arith) in
    turns turn.invariant c.put_byte-next.ensures (rw add-one more) refl (omega arith)
