-- The loop's invariant: the lines behind those to come are there.
use mathlib.Core.Path.{◌≡◌}
use lib.ListN.{length}
use Rattle.schedule.specs.Laid.{LaidFrom}
use Rattle.schedule.proofs.lines.put_lines.Given as goal

abbrev pub invariant-loop-i : goal.invariant-loop-i
invariant-loop-i l = (length l.schedule ≡ length l.initial.schedule) × LaidFrom l.net.net l.nodes l.places l.schedule l.lines l.i
