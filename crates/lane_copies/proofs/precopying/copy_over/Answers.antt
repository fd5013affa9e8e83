use Rattle.std.proofs.Common.{subst}
use Rattle.cluster_nodes.specs.declared.tasks.FileTask.{FileTask}
use Rattle.cluster_state.specs.declared.turn.Turn.{Turn}
use Rattle.cluster_state.specs.declared.turn.Turn.TheVariants.{Work, Done, Busy}
use Rattle.lane_threads.specs.Seats.{log_seen}
use Rattle.cluster_site.specs.Flights.{HasJobAt, WaitsWhere}
use Rattle.cluster_site.proofs.Sections.{job_waited}
use Rattle.lane_copies.specs.Taken.{HandsOn}
use Rattle.lane_copies.proofs.Works.{works_first, works_then}
use Rattle.lane_copies.proofs.precopying.copy_over.Goals as goal

pub loop-init : goal.loop-init
loop-init g c = works_first c.args.lanes.now.lock.now c.args.at.lane.0 c.args.task.now.by c.args.seat.now c.requires.seat

pub loop-preserved-in-Continue-branch-3 : goal.loop-preserved-in-Continue-branch-3
loop-preserved-in-Continue-branch-3 g c =
    let hands : HandsOn c.args.lanes.now.setup.log c.args.lanes.now.lock.now c.args.at.lane.0 c.args.task.now.by c.loop.seat c.hand_out.new.seat Busy =
    subst (λ (turn : Turn FileTask). HandsOn c.args.lanes.now.setup.log c.args.lanes.now.lock.now c.args.at.lane.0 c.args.task.now.by c.loop.seat c.hand_out.new.seat turn) c.in-Busy.is c.in_ok-hand_out.ensures.hands in
    works_then c.args.lanes.now.lock.now c.args.at.lane.0 c.args.task.now.by c.args.seat.now c.loop.seat c.hand_out.new.seat c.loop.invariant hands

pub give_way-requires : goal.give_way-requires
give_way-requires g c =
    job_waited c.args.copy.node.0 (log_seen c.hand_out.new.seat) (subst (WaitsWhere {W = FileTask} (HasJobAt c.args.copy.node.0) (log_seen c.hand_out.new.seat)) c.in-Busy.is c.in_ok-hand_out.ensures.waits)

pub returns-in-Done : goal.returns-in-Done
returns-in-Done g c =
    let hands : HandsOn c.args.lanes.now.setup.log c.args.lanes.now.lock.now c.args.at.lane.0 c.args.task.now.by c.loop.seat c.hand_out.new.seat Done =
    subst (λ (turn : Turn FileTask). HandsOn c.args.lanes.now.setup.log c.args.lanes.now.lock.now c.args.at.lane.0 c.args.task.now.by c.loop.seat c.hand_out.new.seat turn) c.in-Done.is c.in_ok-hand_out.ensures.hands in
    works_then c.args.lanes.now.lock.now c.args.at.lane.0 c.args.task.now.by c.args.seat.now c.loop.seat c.hand_out.new.seat c.loop.invariant hands

pub bring_file-requires-clause-seat : goal.bring_file-requires-clause-seat
bring_file-requires-clause-seat g c =
    let hands : HandsOn c.args.lanes.now.setup.log c.args.lanes.now.lock.now c.args.at.lane.0 c.args.task.now.by c.loop.seat c.hand_out.new.seat (Work c.in-Work.file) =
    subst (λ (turn : Turn FileTask). HandsOn c.args.lanes.now.setup.log c.args.lanes.now.lock.now c.args.at.lane.0 c.args.task.now.by c.loop.seat c.hand_out.new.seat turn) c.in-Work.is c.in_ok-hand_out.ensures.hands in
    hands.0.seat

pub bring_file-requires-clause-out : goal.bring_file-requires-clause-out
bring_file-requires-clause-out g c =
    let hands : HandsOn c.args.lanes.now.setup.log c.args.lanes.now.lock.now c.args.at.lane.0 c.args.task.now.by c.loop.seat c.hand_out.new.seat (Work c.in-Work.file) =
    subst (λ (turn : Turn FileTask). HandsOn c.args.lanes.now.setup.log c.args.lanes.now.lock.now c.args.at.lane.0 c.args.task.now.by c.loop.seat c.hand_out.new.seat turn) c.in-Work.is c.in_ok-hand_out.ensures.hands in
    hands.1

pub loop-preserved : goal.loop-preserved
loop-preserved g c =
    let hands : HandsOn c.args.lanes.now.setup.log c.args.lanes.now.lock.now c.args.at.lane.0 c.args.task.now.by c.loop.seat c.hand_out.new.seat (Work c.in-Work.file) =
    subst (λ (turn : Turn FileTask). HandsOn c.args.lanes.now.setup.log c.args.lanes.now.lock.now c.args.at.lane.0 c.args.task.now.by c.loop.seat c.hand_out.new.seat turn) c.in-Work.is c.in_ok-hand_out.ensures.hands in
    works_then c.args.lanes.now.lock.now c.args.at.lane.0 c.args.task.now.by c.args.seat.now c.hand_out.new.seat c.bring_file.new.seat
    (works_then c.args.lanes.now.lock.now c.args.at.lane.0 c.args.task.now.by c.args.seat.now c.loop.seat c.hand_out.new.seat c.loop.invariant hands.0) c.in_ok-bring_file-in-Work.ensures
