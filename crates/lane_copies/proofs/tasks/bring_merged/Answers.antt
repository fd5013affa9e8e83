use Rattle.lane_threads.specs.Seats.{log_seen}
use Rattle.lane_copies.proofs.Claims.{merged_stays}
use Rattle.cluster_site.proofs.Sections.{found_entered}
use Rattle.lane_copies.proofs.Works.{task_extends, on_works}
use Rattle.lane_copies.proofs.tasks.bring_merged.Goals as goal

pub merge_ready-answer-requires-clause-merged : goal.merge_ready-answer-requires-clause-merged
merge_ready-answer-requires-clause-merged g c =
    let entered = found_entered c.args.lanes.now.lock.now c.args.at c.args.seat.now c.enter_site.new.seat c.value.result.now c.in_ok-held.held c.value.ensures.value c.in_ok-held.ensures.entered c.in_ok-held.ensures.logged in
    merged_stays c.args.at.lane.0 (log_seen c.args.seat.now) c.value.result.now.run.log entered.has.apart c.args.task.now.seg c.args.merged c.requires.merged

pub leave-requires-clause-extends : goal.leave-requires-clause-extends
leave-requires-clause-extends g c =
    let entered = found_entered c.args.lanes.now.lock.now c.args.at c.args.seat.now c.enter_site.new.seat c.value.result.now c.in_ok-held.held c.value.ensures.value c.in_ok-held.ensures.entered c.in_ok-held.ensures.logged in
    task_extends c.args.lanes.now.lock.now c.args.at c.args.task.now.by c.args.seat.now c.enter_site.new.seat c.value.result.now c.merge_ready-answer.new.self entered c.merge_ready-answer.result c.requires.by c.merge_ready-answer.ensures.does c.merge_ready-answer.ensures.err

pub returns : goal.returns
returns g c =
    let entered = found_entered c.args.lanes.now.lock.now c.args.at c.args.seat.now c.enter_site.new.seat c.value.result.now c.in_ok-held.held c.value.ensures.value c.in_ok-held.ensures.entered c.in_ok-held.ensures.logged in
    on_works c.args.lanes.now.lock.now c.args.at c.args.task.now.by c.args.seat.now c.enter_site.new.seat c.value.result.now c.merge_ready-answer.new.self entered c.leave.new.seat c.leave.ensures.seat c.leave.ensures.seen c.merge_ready-answer.result c.merge_ready-answer.ensures.does
