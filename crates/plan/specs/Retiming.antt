-- What the plan is made from, as the definitions say it: the netlist and its timing, and what the plan's area holds of them. Assumes nothing.
use Rattle.std.specs.Prelude.{List, ℕ}
use Rattle.netlist.specs.Net.{Net}
use Rattle.retiming.specs.Rewrite.{Timing}
use Rattle.retiming.specs.Modes.{mode_timing}
use Rattle.wires.specs.Traced.{roots_in, passes_in}
use Rattle.wiring.specs.Wiring.{Timed, ends_in, clocks_in, heads_in}
use Rattle.wiring.specs.Links.{RomsLinked}
use Rattle.plan.specs.declared.Retiming.{Retiming}
use Rattle.plan.specs.Areas.{owners_in, words_in, late_in, firsts_in, sources_in}
use Rattle.plan.specs.Entries.{Placing, Wants, entries_before, AllPlaced}
use Rattle.plan.specs.Registers.{Planning, Laid, AllLaid}
use Rattle.plan.specs.RegistersLaws.{WireRead}

abbrev pub net_of : Retiming → Net
net_of r = r.net.now.net

abbrev pub timing_of : Retiming → Timing
timing_of r = mode_timing r.mode (net_of r)

-- its timing suits it, its wires tell which reset words each ROM wants, and those of each ROM are linked
abbrev pub IsTimed : Retiming → Type 0
IsTimed r = Timed (net_of r) (timing_of r) r.timing.now

abbrev pub TellsWords : Retiming → Type 0
TellsWords r = Wants (net_of r) (timing_of r) (ends_in r.wires.now) r.copied.now

abbrev pub LinksRoms : Retiming → Type 0
LinksRoms r = RomsLinked (net_of r) (ends_in r.wires.now) (heads_in r.wires.now) (clocks_in r.wires.now)

-- the entries of the first u nodes are placed in the plan's area, and those of all
abbrev pub PlacesTo : Retiming → List ℕ → ℕ → ℕ → Type 0
PlacesTo r plan u count = Placing (owners_in plan) (words_in plan) (entries_before (net_of r) (timing_of r) u) count

abbrev pub PlacesAll : Retiming → List ℕ → ℕ → Type 0
PlacesAll r plan count = AllPlaced (net_of r) (timing_of r) (owners_in plan) (words_in plan) (firsts_in plan) count

-- with the entries placed, all is at hand for the wires
abbrev pub IsPlanned : Retiming → List ℕ → Type 0
IsPlanned r plan = Planning (net_of r) (timing_of r) r.timing.now (roots_in r.timing.now) (passes_in r.timing.now) (ends_in r.wires.now) r.copied.now (firsts_in plan)

-- the wire to operand p of entry e, whose old node is x, can be read
abbrev pub ReadsWire : Retiming → List ℕ → ℕ → ℕ → ℕ → Type 0
ReadsWire r plan e p x = WireRead (net_of r) (timing_of r) r.wires.now plan e p x

-- the first m wires are laid in it, and all
abbrev pub LaysTo : Retiming → List ℕ → ℕ → ℕ → Type 0
LaysTo r plan m total = Laid (net_of r) (timing_of r) (owners_in plan) (words_in plan) (late_in plan) (sources_in plan) m total

abbrev pub LaysAll : Retiming → List ℕ → ℕ → Type 0
LaysAll r plan total = AllLaid (net_of r) (timing_of r) (owners_in plan) (words_in plan) (late_in plan) (sources_in plan) total
