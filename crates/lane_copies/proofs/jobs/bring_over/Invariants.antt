use Rattle.lane_copies.specs.Jobs.{IsCopyingBy, StepsJob}
use Rattle.lane_copies.proofs.jobs.bring_over.Given as goal

abbrev pub invariant-loop : goal.invariant-loop
invariant-loop g l = StepsJob l.lanes.setup.log l.lanes.setup.nodes l.lanes.lock.now l.fn.at l.task (IsCopyingBy l.fn.at l.task) l.initial.seat l.seat
