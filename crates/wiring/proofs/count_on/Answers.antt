-- The formula, over what the work area holds.
use mathlib.Core.Path.{◌≡◌, refl, ap, ◌∙◌}
use native.Mathlib.Omega.{arith}
use Rattle.std.specs.Prelude.{Bool, true, false}
use mir.Val.{bool_byte}
use Rattle.lists.specs.Lists.{one}
use Rattle.wiring.specs.WiringLaws.{root_inside, counted, count_few, root-read, passed-read}
use Rattle.wiring.proofs.count_on.Goals as goal

pub is_clocked_rom-requires : goal.is_clocked_rom-requires
is_clocked_rom-requires c = root_inside c.requires.timed c.requires.source (root-read c.requires.timed c.requires.source)

pub bounds-timing-u : goal.bounds-timing-u
bounds-timing-u c = omega (arith, root_inside c.requires.timed c.requires.source (root-read c.requires.timed c.requires.source))

pub is_memory-requires : goal.is_memory-requires
is_memory-requires c = root_inside c.requires.timed c.requires.source (root-read c.requires.timed c.requires.source)

byte_one : (b : Bool) → bool_byte b ≡ one b
byte_one true = refl
byte_one false = refl

pub returns-clause-count : goal.returns-clause-count
returns-clause-count c =
    let t = c.requires.timed in
    let k = c.from.ensures ∙ byte_one _ ∙ ap one c.is_clocked_rom.ensures in
    let m = c.from-2.ensures ∙ byte_one _ ∙ ap one c.is_memory.ensures in
    omega (arith, passed-read t c.requires.source, counted t c.requires.source (root-read t c.requires.source) c.requires.reader)

pub returns-clause-few : goal.returns-clause-few
returns-clause-few c =
    let t = c.requires.timed in
    let k = c.from.ensures ∙ byte_one _ ∙ ap one c.is_clocked_rom.ensures in
    let m = c.from-2.ensures ∙ byte_one _ ∙ ap one c.is_memory.ensures in
    omega (arith, passed-read t c.requires.source, count_few t c.requires.source (root-read t c.requires.source) c.requires.reader)
