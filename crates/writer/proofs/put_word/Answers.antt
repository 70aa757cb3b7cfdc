-- A word is its high byte, and then its low one.
use native.Mathlib.Omega.{arith}
use Rattle.writer.specs.Written.{puts_more}
use Rattle.writer.proofs.put_word.Goals as goal

pub returns : goal.returns
returns c = puts_more (omega arith) c.put_byte-next.ensures c.put_byte.ensures
