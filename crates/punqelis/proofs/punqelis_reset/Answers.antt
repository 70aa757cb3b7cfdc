-- The answer and the state are the definition's, and the length is within 65,535.
use Rattle.std.proofs.Common.{sym, subst}
use Rattle.punqelis.specs.CodeLaws.{LengthWithin}
use Rattle.punqelis.specs.RunLaws.{reset_within}
use Rattle.punqelis.proofs.punqelis_reset.Goals as goal

pub code-requires : goal.code-requires
code-requires c = subst (LengthWithin 65535) (sym c.reset_state.ensures.answer) (reset_within c.args.file.now c.args.state.now)
