-- A shift of 1 is a power of 2.
use mathlib.Core.Path.{◌∙◌}
use Prim.Native.Nat.{◌^◌}
use native.Mathlib.Omega.{arith}
use native.Mathlib.Nat.{one-mul}
use lib.Pow.{shl_exact, pow_mono}
use lib.Dec.{lit<}
use Rattle.reader.proofs.tables.word_count.Goals as goal

pub returns : goal.returns
returns c =
    let e = shl_exact {a = 1} 1 c.args.bits 64 (lit< tt) (omega arith) ∙ one-mul (2 ^ c.args.bits) in
    record { count = e; few = omega (arith, e, pow_mono {i = c.args.bits} {j = 10} c.requires) }
