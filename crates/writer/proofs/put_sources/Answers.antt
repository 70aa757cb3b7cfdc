-- Turn by turn one source more is written.
use native.Mathlib.Omega.{arith}
use Rattle.codec.proofs.ContentLength.{sources-more}
use Rattle.writer.specs.Turn.{start, turns}
use Rattle.writer.proofs.put_sources.Goals as goal

pub loop-i-init : goal.loop-i-init
loop-i-init c = start (omega arith)

pub loop-i-preserved : goal.loop-i-preserved
loop-i-preserved c =
    let turn = c.loop-i in
    let more = sources-more c.args.sources.now turn.i (omega arith) in
    turns turn.invariant c.put_word-next.ensures more (omega arith) (omega arith)
