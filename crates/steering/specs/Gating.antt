-- What the gates are added to, as the definitions say it. Assumes nothing.
use Rattle.std.specs.Prelude.{◌≡◌, List, ℕ, ◌≤◌, length}
use Rattle.netlist.specs.Net.{Net}
use Rattle.behaviour.specs.Run.{zero_word}
use Rattle.retiming.specs.Rewrite.{Timing, places}
use Rattle.retiming.specs.Modes.{mode_timing}
use Rattle.wiring.specs.Wiring.{Timed}
use Rattle.plan.specs.Registers.{entry_count}
use Rattle.steering.specs.declared.Gating.{Gating}
use Rattle.steering.specs.GatesTo.{GatesIn, AllGatedIn}
use Rattle.steering.specs.GatesArea.{GateRead}

abbrev pub net_of : Gating → Net
net_of r = r.net.now.net

abbrev pub timing_of : Gating → Timing
timing_of r = mode_timing r.made.mode (net_of r)

-- its timing suits it
abbrev pub IsTimed : Gating → Type 0
IsTimed r = Timed (net_of r) (timing_of r) r.timing.now

-- its plan counts the entries, and the nodes before the gates
pub record IsCounted (r : Gating) : Type 0 where
  pub entries : r.made.entries ≡ entry_count (net_of r) (timing_of r)
  pub few : r.made.entries ≤ 1024
  pub wired : r.made.wired ≡ length (places (net_of r) (timing_of r) (zero_word (net_of r)))

-- the wire to operand p of an entry e, whose old node is x, can be read
abbrev pub ReadsWire : Gating → ℕ → ℕ → ℕ → Type 0
ReadsWire r e p x = GateRead (net_of r) e p x

-- the gates of the first m wires are in the plan's area, and those of all
abbrev pub GatesFirst : Gating → List ℕ → ℕ → ℕ → Type 0
GatesFirst r plan m total = GatesIn (net_of r) (timing_of r) plan m total

abbrev pub GatesAll : Gating → List ℕ → ℕ → Type 0
GatesAll r plan total = AllGatedIn (net_of r) (timing_of r) plan total
