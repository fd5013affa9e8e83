use Rattle.std.proofs.Common.{subst}
use Rattle.lane_threads.specs.Seats.{log_seen}
use Rattle.cluster_site.specs.Flights.{HasPublish, WaitsWhere}
use Rattle.cluster_site.proofs.Sections.{publish_waited}
use Rattle.lane_copies.proofs.Works.{works_first, works_then}
use Rattle.lane_copies.proofs.tasks.cut_over.Goals as goal

pub loop-init : goal.loop-init
loop-init g c = works_first c.args.lanes.now.lock.now c.args.at.lane.0 c.args.task.now.by c.args.seat.now c.requires.seat

pub loop-preserved : goal.loop-preserved
loop-preserved g c = works_then c.args.lanes.now.lock.now c.args.at.lane.0 c.args.task.now.by c.args.seat.now c.loop.seat c.cut.new.seat c.loop.invariant c.in_ok-cut.ensures.works

pub give_way-requires : goal.give_way-requires
give_way-requires g c = publish_waited (log_seen c.cut.new.seat) (subst (WaitsWhere {W = Unit {0}} HasPublish (log_seen c.cut.new.seat)) c.in-Busy.is c.in_ok-cut.ensures.waits)

pub returns-in-Done : goal.returns-in-Done
returns-in-Done g c = works_then c.args.lanes.now.lock.now c.args.at.lane.0 c.args.task.now.by c.args.seat.now c.loop.seat c.cut.new.seat c.loop.invariant c.in_ok-cut.ensures.works

pub returns-in-Work : goal.returns-in-Work
returns-in-Work g c = works_then c.args.lanes.now.lock.now c.args.at.lane.0 c.args.task.now.by c.args.seat.now c.loop.seat c.cut.new.seat c.loop.invariant c.in_ok-cut.ensures.works
