use Rattle.std.proofs.Common.{subst}
use Rattle.script_serving.specs.declared.script.LineCommand.TheVariants.{Commit}
use Rattle.cluster_nodes.specs.declared.tasks.CommitTask.{CommitTask}
use Rattle.cluster_state.specs.declared.turn.Turn.{Turn}
use Rattle.cluster_state.specs.declared.turn.Turn.TheVariants.{Work, Done, Busy}
use Rattle.lane_threads.specs.Seats.{log_seen}
use Rattle.cluster_site.specs.Flights.{HasCommitAt, WaitsWhere}
use Rattle.cluster_site.specs.Turns.{IsUnbegunIn, TurnsLine}
use Rattle.cluster_site.proofs.Sections.{takes_first, takes_then, takes_ends, on_takes_ends, commit_waited}
use Rattle.lane_lines.specs.Commits.{IsCommitting}
use Rattle.lane_lines.proofs.Commits.{on_node}
use Rattle.lane_lines.proofs.committing.commit.Goals as goal

pub loop-init : goal.loop-init
loop-init g c = takes_first c.args.lanes.now.lock.now (Commit c.args.n) c.args.at c.args.seat.now c.requires.seat c.requires.fresh

pub loop-preserved : goal.loop-preserved
loop-preserved g c =
    let turns : TurnsLine c.args.lanes.now.setup.log (IsCommitting c.args.at c.args.n) (IsUnbegunIn c.args.at) c.args.lanes.now.lock.now (Commit c.args.n) c.args.at c.loop.seat c.start.new.seat Busy =
    subst (λ (turn : Turn CommitTask). TurnsLine c.args.lanes.now.setup.log (IsCommitting c.args.at c.args.n) (IsUnbegunIn c.args.at) c.args.lanes.now.lock.now (Commit c.args.n) c.args.at c.loop.seat c.start.new.seat turn) c.in-Busy.is c.in_ok-start.ensures.turns in
    takes_then c.args.lanes.now.lock.now (Commit c.args.n) c.args.at c.args.seat.now c.loop.seat c.start.new.seat c.loop.invariant (IsUnbegunIn c.args.at) turns

pub give_way-requires : goal.give_way-requires
give_way-requires g c =
    commit_waited c.args.n.0 (log_seen c.start.new.seat) (subst (WaitsWhere {W = CommitTask} (HasCommitAt c.args.n.0) (log_seen c.start.new.seat)) c.in-Busy.is c.in_ok-start.ensures.waits)

pub returns-in-Done : goal.returns-in-Done
returns-in-Done g c =
    let turns : TurnsLine c.args.lanes.now.setup.log (IsCommitting c.args.at c.args.n) (IsUnbegunIn c.args.at) c.args.lanes.now.lock.now (Commit c.args.n) c.args.at c.loop.seat c.start.new.seat Done =
    subst (λ (turn : Turn CommitTask). TurnsLine c.args.lanes.now.setup.log (IsCommitting c.args.at c.args.n) (IsUnbegunIn c.args.at) c.args.lanes.now.lock.now (Commit c.args.n) c.args.at c.loop.seat c.start.new.seat turn) c.in-Done.is c.in_ok-start.ensures.turns in
    takes_ends c.args.lanes.now.lock.now (Commit c.args.n) c.args.at c.args.seat.now c.loop.seat c.start.new.seat c.loop.invariant turns

pub finish-requires-clause-begun : goal.finish-requires-clause-begun
finish-requires-clause-begun g c =
    let turns : TurnsLine c.args.lanes.now.setup.log (IsCommitting c.args.at c.args.n) (IsUnbegunIn c.args.at) c.args.lanes.now.lock.now (Commit c.args.n) c.args.at c.loop.seat c.start.new.seat (Work c.in-Work.task) =
    subst (λ (turn : Turn CommitTask). TurnsLine c.args.lanes.now.setup.log (IsCommitting c.args.at c.args.n) (IsUnbegunIn c.args.at) c.args.lanes.now.lock.now (Commit c.args.n) c.args.at c.loop.seat c.start.new.seat turn) c.in-Work.is c.in_ok-start.ensures.turns in
    turns.now.begun

pub finish-requires-clause-seat : goal.finish-requires-clause-seat
finish-requires-clause-seat g c =
    let turns : TurnsLine c.args.lanes.now.setup.log (IsCommitting c.args.at c.args.n) (IsUnbegunIn c.args.at) c.args.lanes.now.lock.now (Commit c.args.n) c.args.at c.loop.seat c.start.new.seat (Work c.in-Work.task) =
    subst (λ (turn : Turn CommitTask). TurnsLine c.args.lanes.now.setup.log (IsCommitting c.args.at c.args.n) (IsUnbegunIn c.args.at) c.args.lanes.now.lock.now (Commit c.args.n) c.args.at c.loop.seat c.start.new.seat turn) c.in-Work.is c.in_ok-start.ensures.turns in
    turns.taken.seat

pub returns-in-Work : goal.returns-in-Work
returns-in-Work g c =
    let turns : TurnsLine c.args.lanes.now.setup.log (IsCommitting c.args.at c.args.n) (IsUnbegunIn c.args.at) c.args.lanes.now.lock.now (Commit c.args.n) c.args.at c.loop.seat c.start.new.seat (Work c.in-Work.task) =
    subst (λ (turn : Turn CommitTask). TurnsLine c.args.lanes.now.setup.log (IsCommitting c.args.at c.args.n) (IsUnbegunIn c.args.at) c.args.lanes.now.lock.now (Commit c.args.n) c.args.at c.loop.seat c.start.new.seat turn) c.in-Work.is c.in_ok-start.ensures.turns in
    on_takes_ends c.args.lanes.now.lock.now (Commit c.args.n) c.args.at c.args.seat.now c.start.new.seat c.finish.new.seat
    (takes_then c.args.lanes.now.lock.now (Commit c.args.n) c.args.at c.args.seat.now c.loop.seat c.start.new.seat c.loop.invariant (IsCommitting c.args.at c.args.n c.in-Work.task) turns) c.finish.result
    (on_node c.args.lanes.now.setup.log c.args.lanes.now.lock.now c.args.at c.in-Work.task.node c.args.n c.finish.result c.start.new.seat c.finish.new.seat turns.now.node c.finish.ensures)
