use Rattle.std.proofs.Common.{length, ◌-◌}
use Rattle.replica_opening.proofs.Placed.{ArePlacedTo}
use Rattle.replica_opening.proofs.sharing.places_of.Given as goal

abbrev pub decreases-loop-at : goal.decreases-loop-at
decreases-loop-at l = length l.records - l.at

abbrev pub invariant-loop-at : goal.invariant-loop-at
invariant-loop-at l = ArePlacedTo l.records l.at l.places.entries
