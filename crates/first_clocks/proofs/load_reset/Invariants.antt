use mathlib.Core.Path.{◌≡◌}
use lib.ListN.{length}
use Rattle.first_clocks.specs.ZeroRun.{LoadedTo}
use Rattle.first_clocks.proofs.load_reset.Given as goal

abbrev pub invariant-loop-v : goal.invariant-loop-v
invariant-loop-v l = (length l.words ≡ length l.initial.words) × LoadedTo l.net.net 0 l.words l.v
