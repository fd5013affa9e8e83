use Rattle.cluster_site.proofs.Sections.{found_entered}
use Rattle.lane_copies.proofs.Works.{task_extends, on_takes}
use Rattle.lane_copies.proofs.tasks.take.Goals as goal

pub leave-requires-clause-extends : goal.leave-requires-clause-extends
leave-requires-clause-extends g c =
    let entered = found_entered c.args.lanes.now.lock.now c.args.at c.args.seat.now c.enter_site.new.seat c.value.result.now c.in_ok-held.held c.value.ensures.value c.in_ok-held.ensures.entered c.in_ok-held.ensures.logged in
    task_extends c.args.lanes.now.lock.now c.args.at c.args.by c.args.seat.now c.enter_site.new.seat c.value.result.now c.task_take-answer.new.self entered c.task_take-answer.result c.requires.by c.task_take-answer.ensures.does c.task_take-answer.ensures.err

pub returns : goal.returns
returns g c =
    let entered = found_entered c.args.lanes.now.lock.now c.args.at c.args.seat.now c.enter_site.new.seat c.value.result.now c.in_ok-held.held c.value.ensures.value c.in_ok-held.ensures.entered c.in_ok-held.ensures.logged in
    on_takes c.args.lanes.now.lock.now c.args.at c.args.by c.args.seat.now c.enter_site.new.seat c.value.result.now c.task_take-answer.new.self entered c.leave.new.seat c.leave.ensures.seat c.leave.ensures.seen c.task_take-answer.result c.task_take-answer.ensures.does c.task_take-answer.ensures.ok
