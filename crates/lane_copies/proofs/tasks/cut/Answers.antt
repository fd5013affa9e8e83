use Rattle.std.proofs.lemmas.Result.{IfOk-weaker}
use Rattle.lane_threads.specs.Seats.{log_seen}
use Rattle.cluster_merges.specs.TaskCalls.{CutTurns}
use Rattle.cluster_site.specs.Flights.{HasPublish, WaitsWhere}
use Rattle.cluster_site.proofs.Sections.{found_entered, on_waits}
use Rattle.lane_copies.proofs.Works.{task_extends, on_works, cut_waits}
use Rattle.lane_copies.proofs.tasks.cut.Goals as goal

pub leave-requires-clause-extends : goal.leave-requires-clause-extends
leave-requires-clause-extends g c =
    let entered = found_entered c.args.lanes.now.lock.now c.args.at c.args.seat.now c.enter_site.new.seat c.value.result.now c.in_ok-held.held c.value.ensures.value c.in_ok-held.ensures.entered c.in_ok-held.ensures.logged in
    task_extends c.args.lanes.now.lock.now c.args.at c.args.task.now.by c.args.seat.now c.enter_site.new.seat c.value.result.now c.merge_cut-answer.new.self entered c.merge_cut-answer.result c.requires.by c.merge_cut-answer.ensures.does c.merge_cut-answer.ensures.err

pub returns-clause-works : goal.returns-clause-works
returns-clause-works g c =
    let entered = found_entered c.args.lanes.now.lock.now c.args.at c.args.seat.now c.enter_site.new.seat c.value.result.now c.in_ok-held.held c.value.ensures.value c.in_ok-held.ensures.entered c.in_ok-held.ensures.logged in
    on_works c.args.lanes.now.lock.now c.args.at c.args.task.now.by c.args.seat.now c.enter_site.new.seat c.value.result.now c.merge_cut-answer.new.self entered c.leave.new.seat c.leave.ensures.seat c.leave.ensures.seen c.merge_cut-answer.result c.merge_cut-answer.ensures.does

pub returns-clause-waits : goal.returns-clause-waits
returns-clause-waits g c =
    let old = c.value.result.now.run in
    let new = c.merge_cut-answer.new.self.run in
    let task = c.args.task.now in
    on_waits HasPublish new.log (log_seen c.leave.new.seat) c.merge_cut-answer.result c.leave.ensures.seen
    (IfOk-weaker c.merge_cut-answer.result (CutTurns task.line task.seg task.by old new) (WaitsWhere HasPublish new.log) (cut_waits task.line task.seg task.by old new) c.merge_cut-answer.ensures.ok)
