-- What the new netlist is laid from, as the definitions say it. Assumes nothing.
use Rattle.std.specs.Prelude.{ℕ}
use Rattle.netlist.specs.Net.{Net}
use Rattle.netlist.specs.declared.Node.{Node}
use Rattle.behaviour.specs.Run.{zero_word}
use Rattle.retiming.specs.Rewrite.{Timing}
use Rattle.retiming.specs.Gates.{gated_with}
use Rattle.retiming.specs.Modes.{mode_timing}
use Rattle.plan.specs.Areas.{owners_in, late_in, sources_in}
use Rattle.layout.specs.declared.Layout.{Layout}
use Rattle.layout.specs.Planned.{PlannedBy}
use Rattle.layout.specs.PlannedNode as P

abbrev pub net_of : Layout → Net
net_of r = r.net.now.net

abbrev pub timing_of : Layout → Timing
timing_of r = mode_timing r.made.mode (net_of r)

-- its plan and its words are those of the new netlist
abbrev pub IsPlanned : Layout → Type 0
IsPlanned r = PlannedBy (net_of r) r.made r.plan.now r.words.now

-- node i of it, and the constant or gate that a late start has there
abbrev pub new_node : Layout → ℕ → Node
new_node r i = P.new_node (net_of r) (timing_of r) i

abbrev pub shown_node : Layout → ℕ → Node
shown_node r i = P.shown_node (net_of r) (owners_in r.plan.now) r.words.now (late_in r.plan.now) (sources_in r.plan.now) i

-- and it as a whole
abbrev pub new_net : Layout → Net
new_net r = gated_with (net_of r) (timing_of r) (zero_word (net_of r))
