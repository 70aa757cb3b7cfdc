-- The answer and the output are the definition's, and the length is within 65,535.
use Rattle.std.proofs.Common.{sym, subst, arith}
use Rattle.retiming.specs.declared.Mode.TheVariants.{Late}
use Rattle.punqelis.specs.CodeLaws.{LengthWithin}
use Rattle.punqelis.specs.RewriteLaws.{rewrite_within}
use Rattle.punqelis.proofs.punqelis_rewrite_late.Goals as goal

pub code-requires : goal.code-requires
code-requires c = subst (LengthWithin 65535) (sym c.rewrite_late.ensures.answer) (rewrite_within Late c.args.file.now c.args.out.now (λ i. omega (arith, c.type_inv.file i)))
