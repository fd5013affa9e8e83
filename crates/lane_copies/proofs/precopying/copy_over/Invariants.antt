use Rattle.lane_copies.specs.Taken.{WorksOn}
use Rattle.lane_copies.proofs.precopying.copy_over.Given as goal

abbrev pub invariant-loop : goal.invariant-loop
invariant-loop g l = WorksOn l.lanes.setup.log l.lanes.lock.now l.fn.at.lane.0 l.task.by l.initial.seat l.seat
