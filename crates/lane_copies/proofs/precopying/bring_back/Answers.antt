use Rattle.lane_threads.specs.Seats.{log_seen}
use Rattle.lane_copies.proofs.Claims.{source_stays}
use Rattle.cluster_site.proofs.Sections.{found_entered}
use Rattle.lane_copies.proofs.Works.{task_extends, on_works}
use Rattle.lane_copies.proofs.precopying.bring_back.Goals as goal

pub precopy_arrived-answer-requires-clause-out : goal.precopy_arrived-answer-requires-clause-out
precopy_arrived-answer-requires-clause-out g c =
    let entered = found_entered c.args.lanes.now.lock.now c.args.at c.args.seat.now c.enter_site.new.seat c.value.result.now c.in_ok-held.held c.value.ensures.value c.in_ok-held.ensures.entered c.in_ok-held.ensures.logged in
    source_stays c.args.at.lane.0 (log_seen c.args.seat.now) c.value.result.now.run.log entered.has.apart c.args.file.now.name c.args.file.now.source c.requires.out.out

pub leave-requires-clause-extends : goal.leave-requires-clause-extends
leave-requires-clause-extends g c =
    let entered = found_entered c.args.lanes.now.lock.now c.args.at c.args.seat.now c.enter_site.new.seat c.value.result.now c.in_ok-held.held c.value.ensures.value c.in_ok-held.ensures.entered c.in_ok-held.ensures.logged in
    task_extends c.args.lanes.now.lock.now c.args.at c.args.task.now.by c.args.seat.now c.enter_site.new.seat c.value.result.now c.precopy_arrived-answer.new.self entered c.precopy_arrived-answer.result c.requires.by c.precopy_arrived-answer.ensures.does c.precopy_arrived-answer.ensures.err

pub returns : goal.returns
returns g c =
    let entered = found_entered c.args.lanes.now.lock.now c.args.at c.args.seat.now c.enter_site.new.seat c.value.result.now c.in_ok-held.held c.value.ensures.value c.in_ok-held.ensures.entered c.in_ok-held.ensures.logged in
    on_works c.args.lanes.now.lock.now c.args.at c.args.task.now.by c.args.seat.now c.enter_site.new.seat c.value.result.now c.precopy_arrived-answer.new.self entered c.leave.new.seat c.leave.ensures.seat c.leave.ensures.seen c.precopy_arrived-answer.result c.precopy_arrived-answer.ensures.does
