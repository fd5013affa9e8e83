use Rattle.lane_threads.specs.Lanes.{IsCrewMade}
use Rattle.lane_threads.proofs.seating.make_crew.Given as goal

abbrev pub invariant-loop-k : goal.invariant-loop-k
invariant-loop-k g l = IsCrewMade l.lock l.k l.hub l.lanes.items
