use Rattle.std.proofs.Common.{refl}
use Rattle.lane_threads.proofs.HeardLanes.{lane_told}
use Rattle.lane_threads.proofs.hearing.tell_lane.Goals as goal

pub returns-clause-lane : goal.returns-clause-lane
returns-clause-lane g c =
    (lane_told c.args.logged c.args.lock.now g.met.T.LaneRun.named c.args.lane.now _ c.args.hub.now refl c.requires.lane c.requires.hub.faults c.tell.ensures.to c.tell.ensures.seen).0
