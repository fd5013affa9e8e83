use Rattle.std.proofs.Common.{subst}
use Rattle.segment_steps.specs.declared.flushing.FlushTask.{FlushTask}
use Rattle.script_serving.specs.declared.script.LineCommand.TheVariants.{Publish}
use Rattle.cluster_state.specs.declared.turn.Turn.{Turn}
use Rattle.cluster_state.specs.declared.turn.Turn.TheVariants.{Work, Done, Busy}
use Rattle.lane_threads.specs.Seats.{log_seen}
use Rattle.cluster_site.specs.Flights.{HasPublish, WaitsWhere}
use Rattle.cluster_site.specs.Turns.{IsUnbegunIn, TurnsLine}
use Rattle.cluster_site.proofs.Sections.{takes_first, takes_then, takes_ends, on_takes_ends, publish_waited}
use Rattle.lane_lines.specs.Flushes.{IsFlushing}
use Rattle.lane_lines.proofs.publishing.publish.Goals as goal

pub loop-init : goal.loop-init
loop-init g c = takes_first c.args.lanes.now.lock.now Publish c.args.at c.args.seat.now c.requires.seat c.requires.fresh

pub loop-preserved : goal.loop-preserved
loop-preserved g c =
    let turns : TurnsLine c.args.lanes.now.setup.log (IsFlushing c.args.at) (IsUnbegunIn c.args.at) c.args.lanes.now.lock.now Publish c.args.at c.loop.seat c.start.new.seat Busy =
    subst (λ (turn : Turn FlushTask). TurnsLine c.args.lanes.now.setup.log (IsFlushing c.args.at) (IsUnbegunIn c.args.at) c.args.lanes.now.lock.now Publish c.args.at c.loop.seat c.start.new.seat turn) c.in-Busy.is c.in_ok-start.ensures.turns in
    takes_then c.args.lanes.now.lock.now Publish c.args.at c.args.seat.now c.loop.seat c.start.new.seat c.loop.invariant (IsUnbegunIn c.args.at) turns

pub give_way-requires : goal.give_way-requires
give_way-requires g c =
    publish_waited (log_seen c.start.new.seat) (subst (WaitsWhere {W = FlushTask} HasPublish (log_seen c.start.new.seat)) c.in-Busy.is c.in_ok-start.ensures.waits)

pub returns-in-Done : goal.returns-in-Done
returns-in-Done g c =
    let turns : TurnsLine c.args.lanes.now.setup.log (IsFlushing c.args.at) (IsUnbegunIn c.args.at) c.args.lanes.now.lock.now Publish c.args.at c.loop.seat c.start.new.seat Done =
    subst (λ (turn : Turn FlushTask). TurnsLine c.args.lanes.now.setup.log (IsFlushing c.args.at) (IsUnbegunIn c.args.at) c.args.lanes.now.lock.now Publish c.args.at c.loop.seat c.start.new.seat turn) c.in-Done.is c.in_ok-start.ensures.turns in
    takes_ends c.args.lanes.now.lock.now Publish c.args.at c.args.seat.now c.loop.seat c.start.new.seat c.loop.invariant turns

pub build-requires-clause-flushing : goal.build-requires-clause-flushing
build-requires-clause-flushing g c =
    let turns : TurnsLine c.args.lanes.now.setup.log (IsFlushing c.args.at) (IsUnbegunIn c.args.at) c.args.lanes.now.lock.now Publish c.args.at c.loop.seat c.start.new.seat (Work c.in-Work.task) =
    subst (λ (turn : Turn FlushTask). TurnsLine c.args.lanes.now.setup.log (IsFlushing c.args.at) (IsUnbegunIn c.args.at) c.args.lanes.now.lock.now Publish c.args.at c.loop.seat c.start.new.seat turn) c.in-Work.is c.in_ok-start.ensures.turns in
    turns.now

pub build-requires-clause-seat : goal.build-requires-clause-seat
build-requires-clause-seat g c =
    let turns : TurnsLine c.args.lanes.now.setup.log (IsFlushing c.args.at) (IsUnbegunIn c.args.at) c.args.lanes.now.lock.now Publish c.args.at c.loop.seat c.start.new.seat (Work c.in-Work.task) =
    subst (λ (turn : Turn FlushTask). TurnsLine c.args.lanes.now.setup.log (IsFlushing c.args.at) (IsUnbegunIn c.args.at) c.args.lanes.now.lock.now Publish c.args.at c.loop.seat c.start.new.seat turn) c.in-Work.is c.in_ok-start.ensures.turns in
    turns.taken.seat

pub returns-in-Work : goal.returns-in-Work
returns-in-Work g c =
    let turns : TurnsLine c.args.lanes.now.setup.log (IsFlushing c.args.at) (IsUnbegunIn c.args.at) c.args.lanes.now.lock.now Publish c.args.at c.loop.seat c.start.new.seat (Work c.in-Work.task) =
    subst (λ (turn : Turn FlushTask). TurnsLine c.args.lanes.now.setup.log (IsFlushing c.args.at) (IsUnbegunIn c.args.at) c.args.lanes.now.lock.now Publish c.args.at c.loop.seat c.start.new.seat turn) c.in-Work.is c.in_ok-start.ensures.turns in
    on_takes_ends c.args.lanes.now.lock.now Publish c.args.at c.args.seat.now c.start.new.seat c.build.new.seat
    (takes_then c.args.lanes.now.lock.now Publish c.args.at c.args.seat.now c.loop.seat c.start.new.seat c.loop.invariant (IsFlushing c.args.at c.in-Work.task) turns) c.build.result c.build.ensures
