use Rattle.std.proofs.lemmas.Result.{IfOk-weaker}
use Rattle.lane_threads.specs.Seats.{log_seen}
use Rattle.cluster_merges.specs.TaskCalls.{PrecopyTurns}
use Rattle.cluster_site.specs.Flights.{HasJobAt, WaitsWhere}
use Rattle.cluster_site.proofs.Sections.{found_entered, on_waits}
use Rattle.lane_copies.proofs.Works.{task_extends, on_hands, precopy_waits}
use Rattle.lane_copies.proofs.precopying.hand_out.Goals as goal

pub leave-requires-clause-extends : goal.leave-requires-clause-extends
leave-requires-clause-extends g c =
    let entered = found_entered c.args.lanes.now.lock.now c.args.at c.args.seat.now c.enter_site.new.seat c.value.result.now c.in_ok-held.held c.value.ensures.value c.in_ok-held.ensures.entered c.in_ok-held.ensures.logged in
    task_extends c.args.lanes.now.lock.now c.args.at c.args.task.now.by c.args.seat.now c.enter_site.new.seat c.value.result.now c.precopy_next-answer.new.self entered c.precopy_next-answer.result c.requires.by c.precopy_next-answer.ensures.does c.precopy_next-answer.ensures.err

pub returns-clause-hands : goal.returns-clause-hands
returns-clause-hands g c =
    let entered = found_entered c.args.lanes.now.lock.now c.args.at c.args.seat.now c.enter_site.new.seat c.value.result.now c.in_ok-held.held c.value.ensures.value c.in_ok-held.ensures.entered c.in_ok-held.ensures.logged in
    on_hands c.args.lanes.now.lock.now c.args.at c.args.task.now.by c.args.seat.now c.enter_site.new.seat c.value.result.now c.precopy_next-answer.new.self entered c.leave.new.seat c.leave.ensures.seat c.leave.ensures.seen c.args.task.now.line c.args.task.now.seg c.args.copy.node c.args.copy.job c.precopy_next-answer.result c.precopy_next-answer.ensures.does c.precopy_next-answer.ensures.ok

pub returns-clause-waits : goal.returns-clause-waits
returns-clause-waits g c =
    let old = c.value.result.now.run in
    let new = c.precopy_next-answer.new.self.run in
    let task = c.args.task.now in
    let copy = c.args.copy in
    on_waits (HasJobAt copy.node.0) new.log (log_seen c.leave.new.seat) c.precopy_next-answer.result c.leave.ensures.seen
    (IfOk-weaker c.precopy_next-answer.result (PrecopyTurns task.line task.seg task.by copy.node copy.job old new) (WaitsWhere (HasJobAt copy.node.0) new.log) (precopy_waits task.line task.seg task.by copy.node copy.job old new)
    c.precopy_next-answer.ensures.ok)
