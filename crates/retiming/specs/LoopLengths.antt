-- LOOPS KEEP THEIR LENGTH: document 02, T-07, in both modes. Go round a loop of the drawing, or along it from an input port to an output port, and count the registers
-- and clocked ROMs that you come into. Take the new file and go through the same inputs of the same nodes; pass over registers and added gates to the next such node,
-- and where a ROM was split, take the copy that the next node reads. There is such a way, closed where the old one is, and however you go it, you count as many. So
-- what takes five clocks round a feed loop takes five after the rewriting. The late start leaves out loops from which no output port can be reached, and no others.
-- `s` is the old file and `N` its netlist, `s'` the new file and `M` its netlist; `w` is the way in the old one. Which nodes are the same: SameNodes. Assumes nothing.
use Rattle.std.specs.Prelude.{◌≡◌, true, ℕ}
use Rattle.netlist.specs.Net.{Net, element_at, is_input, is_output}
use Rattle.retiming.specs.declared.Mode.{Mode}
use Rattle.retiming.specs.Leads.{Walk}
use Rattle.retiming.specs.Lengths.{comes_from, NotLeftOut, LoopKept, PathKept}

pub record LengthsKept (mode : Mode) (N M : Net) : Type 0 where
  -- every closed walk that is not left out
  pub loops : (u : ℕ) (w : Walk N u u) → NotLeftOut mode N u → LoopKept N M (comes_from mode N) w
  -- every walk from an input port to an output port
  pub paths : (u v : ℕ) (w : Walk N u v) → is_input (element_at N u) ≡ true → is_output (element_at N v) ≡ true → PathKept N M (comes_from mode N) w
