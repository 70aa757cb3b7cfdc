-- The loop's invariant: i clocks are done.
use mathlib.Core.Path.{◌≡◌}
use Prim.Native.Nat.{◌*◌}
use lib.ListN.{length}
use Rattle.behaviour.specs.Runs.{input_widths, output_widths}
use Rattle.behaviour.specs.RunList.{row_bytes}
use Rattle.stepping.specs.Clock.{state_in}
use Rattle.run_list.specs.Clocks.{Clocked}
use Rattle.run_list.proofs.step_clocks.Given as goal

abbrev pub invariant-loop-i : goal.invariant-loop-i
invariant-loop-i l = (l.from ≡ row_bytes (input_widths l.net.net) * l._i) × (l.to ≡ row_bytes (output_widths l.net.net) * l._i) × (length l.words ≡ length l.initial.words)
    × Clocked l.net.net (state_in l.sizes l.initial.words) l.inputs l.initial.outputs l._i (state_in l.sizes l.words) l.outputs
