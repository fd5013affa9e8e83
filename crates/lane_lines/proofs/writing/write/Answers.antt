use Rattle.cluster_site.specs.Given.{writing_command}
use Rattle.cluster_site.proofs.Sections.{found_entered, call_extends, on_call_ends}
use Rattle.lane_lines.proofs.writing.write.Goals as goal

pub leave-requires-clause-extends : goal.leave-requires-clause-extends
leave-requires-clause-extends g c =
    let entered = found_entered c.args.lanes.now.lock.now c.args.at c.args.seat.now c.enter_site.new.seat c.value.result.now c.in_ok-held.held c.value.ensures.value c.in_ok-held.ensures.entered c.in_ok-held.ensures.logged in
    call_extends c.args.lanes.now.lock.now (writing_command c.args.op) c.args.at c.args.seat.now c.enter_site.new.seat c.value.result.now c.accept-answer.new.self entered c.accept-answer.result c.accept-answer.ensures.does c.accept-answer.ensures.err

pub returns : goal.returns
returns g c =
    let entered = found_entered c.args.lanes.now.lock.now c.args.at c.args.seat.now c.enter_site.new.seat c.value.result.now c.in_ok-held.held c.value.ensures.value c.in_ok-held.ensures.entered c.in_ok-held.ensures.logged in
    on_call_ends c.args.lanes.now.lock.now (writing_command c.args.op) c.args.at c.args.seat.now c.enter_site.new.seat c.value.result.now c.accept-answer.new.self entered c.leave.new.seat c.leave.ensures.seat
    c.leave.ensures.seen c.accept-answer.result c.accept-answer.ensures.does c.accept-answer.ensures.replied
