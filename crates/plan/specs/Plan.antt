-- The plan of the rewritten netlist: what an area and the words hold of each of its nodes. Assumes nothing.
use Rattle.std.specs.Prelude.{◌≡◌, List, ℕ, ◌*◌, ◌≤◌, ◌<◌, length}
use Rattle.netlist.specs.Net.{Net}
use Rattle.behaviour.specs.Run.{zero_word}
use Rattle.retiming.specs.Rewrite.{Timing, places}
use Rattle.plan.specs.Areas.{owners_in, words_in, late_in, sources_in}
use Rattle.plan.specs.Registers.{entry_count, Laid}

-- the plan's area holds all but the registers' reset words, or it is known that there are too many nodes
pub record PlanLaid (N : Net) (f : Timing) (plan : List ℕ) (entries total : ℕ) : Type 0 where
  pub exact : total ≤ 1024 → (entries ≡ entry_count N f) × (entry_count N f ≤ 1024) × Laid N f (owners_in plan) (words_in plan) (late_in plan) (sources_in plan) (3 * entry_count N f) total
  pub over : 1024 < total → 1024 < length (places N f (zero_word N))
