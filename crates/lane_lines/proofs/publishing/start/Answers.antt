use Rattle.std.proofs.lemmas.Result.{IfOk-weaker}
use Rattle.script_serving.specs.declared.script.LineCommand.TheVariants.{Publish}
use Rattle.cluster_state.specs.Calls.{PublishStarts}
use Rattle.lane_threads.specs.Seats.{log_seen}
use Rattle.cluster_site.specs.Flights.{HasPublish, WaitsWhere}
use Rattle.cluster_site.specs.Turns.{IsUnbegunIn}
use Rattle.cluster_site.proofs.Sections.{found_entered, if_ok_three, call_extends, on_call_turns, on_waits}
use Rattle.lane_lines.specs.Flushes.{IsFlushing}
use Rattle.lane_lines.proofs.Publishes.{publish_shows, publish_waits}
use Rattle.lane_lines.proofs.publishing.start.Goals as goal

pub leave-requires-clause-extends : goal.leave-requires-clause-extends
leave-requires-clause-extends g c =
    let entered = found_entered c.args.lanes.now.lock.now c.args.at c.args.seat.now c.enter_site.new.seat c.value.result.now c.in_ok-held.held c.value.ensures.value c.in_ok-held.ensures.entered c.in_ok-held.ensures.logged in
    call_extends c.args.lanes.now.lock.now Publish c.args.at c.args.seat.now c.enter_site.new.seat c.value.result.now c.publish_start-answer.new.self entered c.publish_start-answer.result c.publish_start-answer.ensures.does c.publish_start-answer.ensures.err

pub returns-clause-turns : goal.returns-clause-turns
returns-clause-turns g c =
    let entered = found_entered c.args.lanes.now.lock.now c.args.at c.args.seat.now c.enter_site.new.seat c.value.result.now c.in_ok-held.held c.value.ensures.value c.in_ok-held.ensures.entered c.in_ok-held.ensures.logged in
    let found = c.value.result.now in
    let new = c.publish_start-answer.new.self in
    on_call_turns c.args.lanes.now.lock.now Publish c.args.at c.args.seat.now c.enter_site.new.seat found new entered c.leave.new.seat c.leave.ensures.seat c.leave.ensures.seen (IsFlushing c.args.at) (IsUnbegunIn c.args.at)
    c.publish_start-answer.result c.publish_start-answer.ensures.does
    (if_ok_three c.publish_start-answer.result (λ turn. publish_shows c.args.at found.run new.run turn (entered.has.stays.fresh c.requires.fresh)) c.publish_start-answer.ensures.ok c.publish_start-answer.ensures.replied c.publish_start-answer.ensures.begun)

pub returns-clause-waits : goal.returns-clause-waits
returns-clause-waits g c =
    let old = c.value.result.now.run in
    let new = c.publish_start-answer.new.self.run in
    on_waits HasPublish new.log (log_seen c.leave.new.seat) c.publish_start-answer.result c.leave.ensures.seen
    (IfOk-weaker c.publish_start-answer.result (PublishStarts c.args.at old new) (WaitsWhere HasPublish new.log) (publish_waits c.args.at old new) c.publish_start-answer.ensures.ok)
