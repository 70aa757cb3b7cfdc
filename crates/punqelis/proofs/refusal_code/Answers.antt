-- A refusal has no length, so its number is known whatever it is.
use Rattle.punqelis.specs.CodeLaws.{refused_within}
use Rattle.punqelis.proofs.refusal_code.Goals as goal

pub code-requires : goal.code-requires
code-requires c = refused_within
