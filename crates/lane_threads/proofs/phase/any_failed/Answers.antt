use Rattle.lane_threads.proofs.Crews.{none_failed_on}
use Rattle.lane_threads.proofs.phase.any_failed.Goals as goal

pub loop-lane-preserved : goal.loop-lane-preserved
loop-lane-preserved g c = none_failed_on c.args.lanes.now c.loop-lane.lane-index c.lane-item.result c.lane-item.is c.loop-lane-test.true c.loop-lane.invariant c.if-lane.false
