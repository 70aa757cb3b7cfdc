-- Tag and length, kind and width, one after the other.
use mathlib.Core.Path.{ap}
use mathlib.Core.List.{[], ◌∷◌}
use Prim.Native.Nat.{ℕ}
use native.Mathlib.Omega.{arith}
use Rattle.writer.specs.Written.{puts_as, puts_more}
use Rattle.writer.proofs.put_front.Goals as goal

pub returns : goal.returns
returns c =
    let kind = puts_as (ap (λ (k : ℕ). k ∷ []) c.number.ensures) c.put_byte-after_kind.ensures in
    puts_more (omega arith) (puts_more (omega arith) c.put_start-after_size.ensures kind) c.put_byte.ensures
