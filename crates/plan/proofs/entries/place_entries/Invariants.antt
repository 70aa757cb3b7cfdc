use Rattle.plan.specs.PlacedTo.{PlacedTo}
use Rattle.plan.specs.Retiming.{net_of, timing_of}
use Rattle.plan.proofs.entries.place_entries.Given as goal

abbrev pub invariant-loop-u : goal.invariant-loop-u
invariant-loop-u l = PlacedTo (net_of l.from) (timing_of l.from) l.initial.plan l.plan l.count l.u
