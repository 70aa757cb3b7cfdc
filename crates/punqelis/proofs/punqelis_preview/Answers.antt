-- The answer and the list are the definition's, and the length is within 65,535.
use Rattle.std.proofs.Common.{sym, subst, arith}
use Rattle.retiming.specs.declared.Preview.{Preview}
use Rattle.punqelis.specs.Code.{answer_of}
use Rattle.punqelis.specs.CodeLaws.{LengthWithin}
use Rattle.punqelis.specs.RewriteLaws.{preview_within}
use Rattle.punqelis.proofs.punqelis_preview.Goals as goal

pub numbers-requires : goal.numbers-requires
numbers-requires c =
    subst (λ (r : Preview). LengthWithin 65535 (answer_of r)) (sym c.preview_file.ensures.preview) (preview_within c.args.file.now c.args.list.now (λ i. omega (arith, c.type_inv.file i)))
