-- The answer and the output are the definition's, and the length is within 65,535.
use Rattle.std.proofs.Common.{sym, subst, arith}
use Rattle.retiming.specs.declared.Mode.TheVariants.{Plain}
use Rattle.punqelis.specs.CodeLaws.{LengthWithin}
use Rattle.punqelis.specs.RewriteLaws.{rewrite_within}
use Rattle.punqelis.proofs.punqelis_rewrite.Goals as goal

pub code-requires : goal.code-requires
code-requires c = subst (LengthWithin 65535) (sym c.rewrite_file.ensures.answer) (rewrite_within Plain c.args.file.now c.args.out.now (λ i. omega (arith, c.type_inv.file i)))
