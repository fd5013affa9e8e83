use Rattle.lane_threads.proofs.HeardLanes.{all_heard, all_included, idle_after}
use Rattle.lane_threads.proofs.hearing.tell_all.Goals as goal

pub spread-requires-clause-idle : goal.spread-requires-clause-idle
spread-requires-clause-idle g c = idle_after c.args.logged c.args.lock.now c.args.lanes.now c.gather.new.lanes c.gather.ensures.length c.gather.ensures.heard

pub returns-clause-all : goal.returns-clause-all
returns-clause-all g c =
    all_included c.args.logged c.args.lock.now c.args.lanes.now c.gather.new.lanes c.spread.new.lanes c.gather.new.hub c.gather.ensures.length c.gather.ensures.heard c.spread.ensures.heard
    c.spread.ensures.length c.gather.ensures.included c.spread.ensures.includes

pub returns-clause-heard : goal.returns-clause-heard
returns-clause-heard g c =
    all_heard c.args.logged c.args.lock.now c.args.lanes.now c.gather.new.lanes c.spread.new.lanes c.gather.new.hub c.gather.ensures.length c.gather.ensures.heard c.spread.ensures.heard
