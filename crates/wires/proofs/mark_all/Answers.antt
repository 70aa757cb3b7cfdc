-- The loop's invariant: each of the first v nodes is its own root or waits.
use mathlib.Core.Path.{refl, ap, ◌≡◌, ◌∙◌}
use Prim.Native.Nat.{ℕ, ◌*◌}
use Rattle.std.specs.Prelude.{Bool, true, false}
use mir.Val.{bool_byte}
use Rattle.lists.specs.Lists.{one}
use Rattle.wires.specs.TracedLaws.{marked_more}
use Rattle.wires.proofs.mark_all.Goals as goal

byte_one : (b : Bool) → bool_byte b ≡ one b
byte_one true = refl
byte_one false = refl

pub loop-v-preserved : goal.loop-v-preserved
loop-v-preserved c =
    let k = c.loop-v.invariant in
    let w = c.put_wire in
    (marked_more _ w.ensures.written refl (ap (λ (b : ℕ). 65535 * b) (c.from-waits.ensures ∙ byte_one _ ∙ ap one c.is_register.ensures)) k.0, w.ensures.leads ∙ k.1)
