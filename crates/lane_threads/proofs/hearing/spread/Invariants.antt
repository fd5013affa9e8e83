use Rattle.lane_threads.proofs.HeardLanes.{Spreading}
use Rattle.lane_threads.proofs.hearing.spread.Given as goal

abbrev pub invariant-loop-k : goal.invariant-loop-k
invariant-loop-k g l = Spreading l.logged l.lock l.k l.initial.hub l.hub l.initial.lanes l.lanes
