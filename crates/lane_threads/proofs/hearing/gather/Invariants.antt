use Rattle.lane_threads.proofs.HeardLanes.{Gathering}
use Rattle.lane_threads.proofs.hearing.gather.Given as goal

abbrev pub invariant-loop-k : goal.invariant-loop-k
invariant-loop-k g l = Gathering l.logged l.lock l.k l.initial.hub l.hub l.initial.lanes l.lanes
