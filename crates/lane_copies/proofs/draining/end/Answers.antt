use Rattle.script_serving.specs.declared.script.LineCommand.TheVariants.{Drain}
use Rattle.cluster_site.specs.Turns.{IsUnbegunIn, NeverWaits}
use Rattle.cluster_site.proofs.Sections.{found_entered, log_extends, on_call_turns}
use Rattle.lane_copies.proofs.draining.end.Goals as goal

pub end_drain-answer-requires-clause-fresh : goal.end_drain-answer-requires-clause-fresh
end_drain-answer-requires-clause-fresh g c =
    let entered = found_entered c.args.lanes.now.lock.now c.args.at c.args.seat.now c.enter_site.new.seat c.value.result.now c.in_ok-held.held c.value.ensures.value c.in_ok-held.ensures.entered c.in_ok-held.ensures.logged in
    entered.has.stays.fresh c.requires.fresh

pub leave-requires-clause-extends : goal.leave-requires-clause-extends
leave-requires-clause-extends g c =
    let entered = found_entered c.args.lanes.now.lock.now c.args.at c.args.seat.now c.enter_site.new.seat c.value.result.now c.in_ok-held.held c.value.ensures.value c.in_ok-held.ensures.entered c.in_ok-held.ensures.logged in
    log_extends c.args.lanes.now.lock.now (Drain c.args.most) c.args.at c.args.seat.now c.enter_site.new.seat c.value.result.now c.end_drain-answer.new.site entered c.end_drain-answer.result c.end_drain-answer.ensures.does c.end_drain-answer.ensures.err

pub returns : goal.returns
returns g c =
    let entered = found_entered c.args.lanes.now.lock.now c.args.at c.args.seat.now c.enter_site.new.seat c.value.result.now c.in_ok-held.held c.value.ensures.value c.in_ok-held.ensures.entered c.in_ok-held.ensures.logged in
    on_call_turns c.args.lanes.now.lock.now (Drain c.args.most) c.args.at c.args.seat.now c.enter_site.new.seat c.value.result.now c.end_drain-answer.new.site entered c.leave.new.seat c.leave.ensures.seat c.leave.ensures.seen
    (λ w. NeverWaits) (IsUnbegunIn c.args.at) c.end_drain-answer.result c.end_drain-answer.ensures.does c.end_drain-answer.ensures.ok
