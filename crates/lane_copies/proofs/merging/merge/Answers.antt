use Rattle.script_serving.specs.declared.script.LineCommand.TheVariants.{Merge}
use Rattle.cluster_site.proofs.Sections.{found_entered, call_extends, on_call_ends}
use Rattle.lane_copies.proofs.merging.merge.Goals as goal

pub leave-requires-clause-extends : goal.leave-requires-clause-extends
leave-requires-clause-extends g c =
    let entered = found_entered c.args.lanes.now.lock.now c.args.at c.args.seat.now c.enter_site.new.seat c.value.result.now c.in_ok-held.held c.value.ensures.value c.in_ok-held.ensures.entered c.in_ok-held.ensures.logged in
    call_extends c.args.lanes.now.lock.now (Merge c.args.factor) c.args.at c.args.seat.now c.enter_site.new.seat c.value.result.now c.merge_start-answer.new.self entered c.merge_start-answer.result c.merge_start-answer.ensures.does c.merge_start-answer.ensures.err

pub returns : goal.returns
returns g c =
    let entered = found_entered c.args.lanes.now.lock.now c.args.at c.args.seat.now c.enter_site.new.seat c.value.result.now c.in_ok-held.held c.value.ensures.value c.in_ok-held.ensures.entered c.in_ok-held.ensures.logged in
    on_call_ends c.args.lanes.now.lock.now (Merge c.args.factor) c.args.at c.args.seat.now c.enter_site.new.seat c.value.result.now c.merge_start-answer.new.self entered c.leave.new.seat c.leave.ensures.seat
    c.leave.ensures.seen c.merge_start-answer.result c.merge_start-answer.ensures.does c.merge_start-answer.ensures.replied
