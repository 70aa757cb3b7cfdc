-- A test as a number: 1 for what counts, and 0 for what does not. Assumes nothing.
use mathlib.Core.Path.{◌≡◌, refl}
use mathlib.Core.Bool.{Bool, true, false}
use Prim.Native.Nat.{◌≤◌}
use native.Mathlib.Omega.{arith}
use mir.Val.{bool_byte}
use Rattle.lists.specs.Lists.{one}

pub counted_one : (b : Bool) → bool_byte b ≡ one b
counted_one true = refl
counted_one false = refl

pub counted_few : (b : Bool) → bool_byte b ≤ 1
counted_few true = omega arith
counted_few false = omega arith
