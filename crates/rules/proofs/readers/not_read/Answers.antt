-- By the two laws of check 8 over plain values.
use Rattle.rules.proofs.ReaderLaws.{read, unmarked}
use Rattle.rules.proofs.readers.not_read.Goals as goal

pub returns-then-marks-v-gt0 : goal.returns-then-marks-v-gt0
returns-then-marks-v-gt0 c = read c.args.net.now.net c.requires.marks c.args.v c.requires.node c.if-marks-v-gt0.true

pub returns : goal.returns
returns c = unmarked c.args.net.now.net c.requires.marks c.args.v c.requires.node c.if-marks-v-gt0.false _ c.code.ensures.code
