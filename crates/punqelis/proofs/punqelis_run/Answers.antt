-- The answer and the lent slices are the definition's, and the length is within 65,535.
use Rattle.std.proofs.Common.{sym, subst}
use Rattle.punqelis.specs.CodeLaws.{LengthWithin}
use Rattle.punqelis.specs.RunLaws.{run_within}
use Rattle.punqelis.proofs.punqelis_run.Goals as goal

pub code-requires : goal.code-requires
code-requires c = subst (LengthWithin 65535) (sym c.run_clock.ensures.answer) (run_within c.args.file.now c.args.state.now c.args.inputs.now c.args.outputs.now)
