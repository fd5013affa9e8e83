use Rattle.lane_threads.proofs.HeardLanes.{gathering_first, gathering_on}
use Rattle.lane_threads.proofs.hearing.gather.Goals as goal

pub loop-k-init : goal.loop-k-init
loop-k-init g c = gathering_first c.args.logged c.args.lock.now c.args.hub.now c.args.lanes.now c.requires.hub c.requires.idle

pub hear_lane-requires-clause-lane : goal.hear_lane-requires-clause-lane
hear_lane-requires-clause-lane g c = (c.loop-k.invariant.heard c.loop-k.k _ c.loop-k-test.true).idle

pub loop-k-preserved : goal.loop-k-preserved
loop-k-preserved g c =
    let r = c.loop-k.invariant in
    gathering_on c.args.logged c.args.lock.now c.loop-k.k c.args.lanes.now c.loop-k.lanes c.index-lanes-k.result c.hear_lane.new.lane c.loop-k-test.true r.count r.heard c.hear_lane.ensures.lane
    c.args.hub.now c.loop-k.hub c.hear_lane.new.hub r c.hear_lane.ensures.same c.hear_lane.ensures.hub
