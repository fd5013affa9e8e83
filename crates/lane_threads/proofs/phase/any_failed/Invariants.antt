use Rattle.lane_threads.proofs.Crews.{NoneFailed}
use Rattle.lane_threads.proofs.phase.any_failed.Given as goal

abbrev pub invariant-loop-lane : goal.invariant-loop-lane
invariant-loop-lane g l = NoneFailed l.lane-index l.lanes
