use Rattle.std.proofs.lemmas.Result.{IfOk-weaker}
use Rattle.script_serving.specs.declared.script.LineCommand.TheVariants.{Commit}
use Rattle.cluster_state.specs.LifeCalls.{CommitStarts}
use Rattle.lane_threads.specs.Seats.{log_seen}
use Rattle.cluster_site.specs.Flights.{HasCommitAt, WaitsWhere}
use Rattle.cluster_site.specs.Turns.{IsUnbegunIn}
use Rattle.cluster_site.proofs.Sections.{found_entered, if_ok_three, call_extends, on_call_turns, on_waits}
use Rattle.lane_lines.specs.Commits.{IsCommitting}
use Rattle.lane_lines.proofs.Commits.{commit_shows, commit_waits}
use Rattle.lane_lines.proofs.committing.start.Goals as goal

pub leave-requires-clause-extends : goal.leave-requires-clause-extends
leave-requires-clause-extends g c =
    let entered = found_entered c.args.lanes.now.lock.now c.args.at c.args.seat.now c.enter_site.new.seat c.value.result.now c.in_ok-held.held c.value.ensures.value c.in_ok-held.ensures.entered c.in_ok-held.ensures.logged in
    call_extends c.args.lanes.now.lock.now (Commit c.args.n) c.args.at c.args.seat.now c.enter_site.new.seat c.value.result.now c.commit_start-answer.new.self entered c.commit_start-answer.result c.commit_start-answer.ensures.does c.commit_start-answer.ensures.err

pub returns-clause-turns : goal.returns-clause-turns
returns-clause-turns g c =
    let entered = found_entered c.args.lanes.now.lock.now c.args.at c.args.seat.now c.enter_site.new.seat c.value.result.now c.in_ok-held.held c.value.ensures.value c.in_ok-held.ensures.entered c.in_ok-held.ensures.logged in
    let found = c.value.result.now in
    let new = c.commit_start-answer.new.self in
    on_call_turns c.args.lanes.now.lock.now (Commit c.args.n) c.args.at c.args.seat.now c.enter_site.new.seat found new entered c.leave.new.seat c.leave.ensures.seat c.leave.ensures.seen (IsCommitting c.args.at c.args.n) (IsUnbegunIn c.args.at)
    c.commit_start-answer.result c.commit_start-answer.ensures.does
    (if_ok_three c.commit_start-answer.result (λ turn. commit_shows c.args.at c.args.n found.run new.run turn (entered.has.stays.fresh c.requires.fresh)) c.commit_start-answer.ensures.ok c.commit_start-answer.ensures.replied c.commit_start-answer.ensures.begun)

pub returns-clause-waits : goal.returns-clause-waits
returns-clause-waits g c =
    let old = c.value.result.now.run in
    let new = c.commit_start-answer.new.self.run in
    on_waits (HasCommitAt c.args.n.0) new.log (log_seen c.leave.new.seat) c.commit_start-answer.result c.leave.ensures.seen
    (IfOk-weaker c.commit_start-answer.result (CommitStarts c.args.at c.args.n old new) (WaitsWhere (HasCommitAt c.args.n.0) new.log) (commit_waits c.args.at c.args.n old new) c.commit_start-answer.ensures.ok)
