-- The loop's invariant: what stands behind the places to come has its place.
use Rattle.schedule.specs.Places.{PlacedFrom}
use Rattle.schedule.proofs.listing.first_places.Given as goal

abbrev pub invariant-loop-i : goal.invariant-loop-i
invariant-loop-i l = PlacedFrom l.nodes l.places l.lines l.i
