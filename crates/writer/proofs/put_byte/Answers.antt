-- A byte is stored, and the offset goes one on.
use mathlib.Core.Path.{refl}
use Rattle.writer.specs.Written.{written_byte}
use Rattle.writer.proofs.put_byte.Goals as goal

pub returns : goal.returns
returns c = record { offset = refl; holds = written_byte _ _ _ c.requires }
