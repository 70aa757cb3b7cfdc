-- `gates::part` meets its contract: from bit 16 on a word is 0. Assumes nothing.
use mathlib.Core.Path.{sym}
use Prim.Native.Nat.{◌^◌, ◌<◌}
use native.Mathlib.Nat.{div-eq_of_lt, zero-mod}
use native.Mathlib.Omega.{arith}
use lib.Pow.{pow_mono}
use Rattle.gates.proofs.part.Goals as goal

pub returns-else-low-lt16 : goal.returns-else-low-lt16
returns-else-low-lt16 c =
    let h : c.args.a < 2 ^ c.args.low = omega (arith, pow_mono c.if-low-lt16.false) in
    rw (div-eq_of_lt h) (sym (zero-mod _))
