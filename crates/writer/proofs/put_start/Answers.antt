-- A field starts with its tag, and then the length of its content.
use native.Mathlib.Omega.{arith}
use Rattle.writer.specs.Written.{puts_more}
use Rattle.writer.proofs.put_start.Goals as goal

pub returns : goal.returns
returns c = puts_more (omega arith) c.put_byte-next.ensures c.put_word.ensures
