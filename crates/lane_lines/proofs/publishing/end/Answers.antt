use Rattle.std.proofs.Common.{◌∙◌}
use Rattle.script_serving.specs.declared.script.LineCommand.TheVariants.{Publish}
use Rattle.cluster_site.proofs.Sections.{found_entered, call_extends, on_call_ends}
use Rattle.lane_lines.proofs.Publishes.{flushed_stays}
use Rattle.lane_lines.proofs.publishing.end.Goals as goal

pub leave-requires-clause-extends : goal.leave-requires-clause-extends
leave-requires-clause-extends g c =
    let entered = found_entered c.args.lanes.now.lock.now c.args.at c.args.seat.now c.enter_site.new.seat c.value.result.now c.in_ok-held.held c.value.ensures.value c.in_ok-held.ensures.entered c.in_ok-held.ensures.logged in
    call_extends c.args.lanes.now.lock.now (Publish) c.args.at c.args.seat.now c.enter_site.new.seat c.value.result.now c.publish_end-answer.new.self entered c.publish_end-answer.result c.publish_end-answer.ensures.does c.publish_end-answer.ensures.err

pub returns : goal.returns
returns g c =
    let entered = found_entered c.args.lanes.now.lock.now c.args.at c.args.seat.now c.enter_site.new.seat c.value.result.now c.in_ok-held.held c.value.ensures.value c.in_ok-held.ensures.entered c.in_ok-held.ensures.logged in
    on_call_ends c.args.lanes.now.lock.now (Publish) c.args.at c.args.seat.now c.enter_site.new.seat c.value.result.now c.publish_end-answer.new.self entered c.leave.new.seat c.leave.ensures.seat
    c.leave.ensures.seen c.publish_end-answer.result c.publish_end-answer.ensures.does c.publish_end-answer.ensures.replied

pub publish_end-answer-requires-clause-started : goal.publish_end-answer-requires-clause-started
publish_end-answer-requires-clause-started g c =
    let entered = found_entered c.args.lanes.now.lock.now c.args.at c.args.seat.now c.enter_site.new.seat c.value.result.now c.in_ok-held.held c.value.ensures.value c.in_ok-held.ensures.entered c.in_ok-held.ensures.logged in
    entered.has.stays.last ∙ c.requires.started

pub publish_end-answer-requires-clause-work : goal.publish_end-answer-requires-clause-work
publish_end-answer-requires-clause-work g c =
    let entered = found_entered c.args.lanes.now.lock.now c.args.at c.args.seat.now c.enter_site.new.seat c.value.result.now c.in_ok-held.held c.value.ensures.value c.in_ok-held.ensures.entered c.in_ok-held.ensures.logged in
    flushed_stays c.args.at _ c.value.result.now.run.log c.args.work entered.has.apart entered.has.stays c.requires.work
