use Rattle.script_serving.specs.declared.script.LineCommand.TheVariants.{Copy}
use Rattle.cluster_nodes.specs.declared.tasks.CopyTask.{CopyTask}
use Rattle.cluster_state.specs.declared.turn.Turn.{Turn}
use Rattle.history_book.specs.Log.{Log}
use Rattle.cluster_state.specs.CopyCalls.{IsBeingCopied}
use Rattle.lane_threads.specs.Seats.{log_seen}
use Rattle.cluster_site.specs.Turns.{IsUnbegunIn}
use Rattle.cluster_site.proofs.Sections.{found_entered, if_ok_two, if_ok_three, call_extends, on_call_turns, on_waits}
use Rattle.lane_copies.specs.Jobs.{BeginsCopy}
use Rattle.lane_copies.proofs.JobCalls.{copy_shows, copy_waits}
use Rattle.lane_copies.proofs.copying.start.Goals as goal

pub leave-requires-clause-extends : goal.leave-requires-clause-extends
leave-requires-clause-extends g c =
    let entered = found_entered c.args.lanes.now.lock.now c.args.at c.args.seat.now c.enter_site.new.seat c.value.result.now c.in_ok-held.held c.value.ensures.value c.in_ok-held.ensures.entered c.in_ok-held.ensures.logged in
    call_extends c.args.lanes.now.lock.now (Copy c.args.n) c.args.at c.args.seat.now c.enter_site.new.seat c.value.result.now c.copy_start-answer.new.self entered c.copy_start-answer.result c.copy_start-answer.ensures.does c.copy_start-answer.ensures.err

pub returns-clause-turns : goal.returns-clause-turns
returns-clause-turns g c =
    let entered = found_entered c.args.lanes.now.lock.now c.args.at c.args.seat.now c.enter_site.new.seat c.value.result.now c.in_ok-held.held c.value.ensures.value c.in_ok-held.ensures.entered c.in_ok-held.ensures.logged in
    let found = c.value.result.now in
    let new = c.copy_start-answer.new.self in
    on_call_turns c.args.lanes.now.lock.now (Copy c.args.n) c.args.at c.args.seat.now c.enter_site.new.seat found new entered c.leave.new.seat c.leave.ensures.seat c.leave.ensures.seen (BeginsCopy c.args.at c.args.n)
    (IsUnbegunIn c.args.at) c.copy_start-answer.result c.copy_start-answer.ensures.does
    (if_ok_three c.copy_start-answer.result (λ turn. copy_shows c.args.at c.args.n found.run new.run turn (entered.has.stays.fresh c.requires.fresh)) c.copy_start-answer.ensures.ok c.copy_start-answer.ensures.replied c.copy_start-answer.ensures.begun)

pub returns-clause-waits : goal.returns-clause-waits
returns-clause-waits g c =
    let old = c.value.result.now.run in
    let new = c.copy_start-answer.new.self.run in
    on_waits (λ (log : Log). IsBeingCopied log c.args.n.0) new.log (log_seen c.leave.new.seat) c.copy_start-answer.result c.leave.ensures.seen
    (if_ok_two c.copy_start-answer.result (λ (turn : Turn CopyTask). copy_waits c.args.at c.args.n old new turn) c.copy_start-answer.ensures.ok c.copy_start-answer.ensures.exact)
