use Rattle.lane_threads.proofs.HeardLanes.{spreading_first, spreading_on}
use Rattle.lane_threads.proofs.hearing.spread.Goals as goal

pub loop-k-init : goal.loop-k-init
loop-k-init g c = spreading_first c.args.logged c.args.lock.now c.args.hub.now c.args.lanes.now c.requires.hub c.requires.idle

pub tell_lane-requires-clause-lane : goal.tell_lane-requires-clause-lane
tell_lane-requires-clause-lane g c = (c.loop-k.invariant.heard c.loop-k.k _ c.loop-k-test.true).idle

pub loop-k-preserved : goal.loop-k-preserved
loop-k-preserved g c =
    let r = c.loop-k.invariant in
    spreading_on c.args.logged c.args.lock.now c.loop-k.k c.args.lanes.now c.loop-k.lanes c.index-lanes-k.result c.tell_lane.new.lane c.loop-k-test.true r.count r.heard c.tell_lane.ensures.lane
    c.args.hub.now c.loop-k.hub c.tell_lane.new.hub r c.tell_lane.ensures.hub c.tell_lane.ensures.includes
