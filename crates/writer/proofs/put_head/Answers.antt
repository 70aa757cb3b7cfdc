-- The head is its start, and then the byte 1.
use native.Mathlib.Omega.{arith}
use Rattle.writer.specs.Written.{puts_more}
use Rattle.writer.proofs.put_head.Goals as goal

pub returns : goal.returns
returns c = puts_more (omega arith) c.put_start-next.ensures c.put_byte.ensures
