-- The front, and then the number.
use native.Mathlib.Omega.{arith}
use Rattle.writer.specs.Written.{puts_more}
use Rattle.writer.proofs.put_operation.Goals as goal

pub returns : goal.returns
returns c = puts_more (omega arith) c.put_front-after_width.ensures c.put_byte.ensures
