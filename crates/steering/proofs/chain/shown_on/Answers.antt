-- Over what the timing area holds.
use Rattle.std.proofs.Common.{◌≡◌, Bool, true, false, refl, ap, ◌∙◌, arith}
use mir.Val.{bool_byte}
use Rattle.lists.specs.Lists.{one}
use Rattle.wiring.specs.WiringLaws.{root_inside, root-read, passed-read}
use Rattle.steering.specs.ChainLaws.{shown_early_read, shown_read, shown_few}
use Rattle.steering.proofs.chain.shown_on.Goals as goal

pub bounds-timing-u : goal.bounds-timing-u
bounds-timing-u c = let p = c.requires in omega (arith, root_inside p.timed p.source (root-read p.timed p.source))

pub returns-then-origin-timing-clause-shown : goal.returns-then-origin-timing-clause-shown
returns-then-origin-timing-clause-shown c =
    let p = c.requires in
    shown_early_read p.timed p.source p.reader (root-read p.timed p.source) c.origin_of-origin.ensures.origin c.if-origin-timing.true

pub is_clocked_rom-requires : goal.is_clocked_rom-requires
is_clocked_rom-requires c = let p = c.requires in root_inside p.timed p.source (root-read p.timed p.source)

byte_one : (b : Bool) → bool_byte b ≡ one b
byte_one true = refl
byte_one false = refl

pub returns-clause-shown : goal.returns-clause-shown
returns-clause-shown c =
    let p = c.requires in
    let own = c.from.ensures ∙ byte_one _ ∙ ap one c.is_clocked_rom.ensures in
    omega (arith, passed-read p.timed p.source, shown_read p.timed p.source p.reader (root-read p.timed p.source) c.origin_of-origin.ensures.origin (omega (arith, c.if-origin-timing.false)))

pub returns-clause-few : goal.returns-clause-few
returns-clause-few c =
    let p = c.requires in
    let own = c.from.ensures ∙ byte_one _ ∙ ap one c.is_clocked_rom.ensures in
    omega (arith, passed-read p.timed p.source, shown_few p.timed p.source p.reader (root-read p.timed p.source) c.origin_of-origin.ensures.origin)
