-- The answer is the definition's, and its length is within 65,535.
use Rattle.std.proofs.Common.{sym, subst}
use Rattle.punqelis.specs.CodeLaws.{LengthWithin, check_within}
use Rattle.punqelis.proofs.punqelis_check.Goals as goal

pub code-requires : goal.code-requires
code-requires c = subst (LengthWithin 65535) (sym c.check_file.ensures) (check_within _)
