use Rattle.std.proofs.Common.{◌∙◌}
use Rattle.script_serving.specs.declared.script.LineCommand.TheVariants.{Settle}
use Rattle.lane_threads.specs.Seats.{log_seen}
use Rattle.cluster_site.proofs.Sections.{found_entered, found_legal, found_nodes, log_extends, on_call_turns, on_waits}
use Rattle.lane_copies.specs.Jobs.{IsCopiedSomewhere, BeginsNextJob, IsSettlingOn}
use Rattle.lane_copies.proofs.JobCalls.{on_next_job}
use Rattle.lane_copies.proofs.Stays.{still_settling_stays}
use Rattle.lane_copies.proofs.settling.begin.Goals as goal

pub next_job-answer-requires-clause-started : goal.next_job-answer-requires-clause-started
next_job-answer-requires-clause-started g c =
    let entered = found_entered c.args.lanes.now.lock.now c.args.at c.args.seat.now c.enter_site.new.seat c.value.result.now c.in_ok-held.held c.value.ensures.value c.in_ok-held.ensures.entered c.in_ok-held.ensures.logged in
    entered.has.stays.start ∙ c.requires.started

pub next_job-answer-requires-clause-settling : goal.next_job-answer-requires-clause-settling
next_job-answer-requires-clause-settling g c =
    let entered = found_entered c.args.lanes.now.lock.now c.args.at c.args.seat.now c.enter_site.new.seat c.value.result.now c.in_ok-held.held c.value.ensures.value c.in_ok-held.ensures.entered c.in_ok-held.ensures.logged in
    still_settling_stays c.args.lanes.now.setup.nodes c.value.result.now.run.nodes c.args.at (log_seen c.args.seat.now) c.value.result.now.run.log (found_nodes c.args.lanes.now.setup.nodes c.value.result.now c.in_ok-held.held c.value.ensures.value c.in_ok-held.ensures.nodes) (found_legal c.value.result.now c.in_ok-held.held c.value.ensures.value c.in_ok-held.ensures.legal) entered.has.apart
    entered.has.stays c.args.left.now c.requires.settling

pub leave-requires-clause-extends : goal.leave-requires-clause-extends
leave-requires-clause-extends g c =
    let entered = found_entered c.args.lanes.now.lock.now c.args.at c.args.seat.now c.enter_site.new.seat c.value.result.now c.in_ok-held.held c.value.ensures.value c.in_ok-held.ensures.entered c.in_ok-held.ensures.logged in
    log_extends c.args.lanes.now.lock.now Settle c.args.at c.args.seat.now c.enter_site.new.seat c.value.result.now c.next_job-answer.new.site entered c.next_job-answer.result c.next_job-answer.ensures.does c.next_job-answer.ensures.err

pub returns-clause-turns : goal.returns-clause-turns
returns-clause-turns g c =
    let entered = found_entered c.args.lanes.now.lock.now c.args.at c.args.seat.now c.enter_site.new.seat c.value.result.now c.in_ok-held.held c.value.ensures.value c.in_ok-held.ensures.entered c.in_ok-held.ensures.logged in
    let found = c.value.result.now in
    let new = c.next_job-answer.new.site in
    let left = c.next_job-answer.new.left in
    on_call_turns c.args.lanes.now.lock.now Settle c.args.at c.args.seat.now c.enter_site.new.seat found new entered c.leave.new.seat c.leave.ensures.seat c.leave.ensures.seen
    (BeginsNextJob c.args.lanes.now.setup.nodes c.args.at left) (IsSettlingOn c.args.lanes.now.setup.nodes c.args.at left) c.next_job-answer.result c.next_job-answer.ensures.does
    (on_next_job c.args.lanes.now.setup.nodes c.args.at left found new c.next_job-answer.result (found_nodes c.args.lanes.now.setup.nodes c.value.result.now c.in_ok-held.held c.value.ensures.value c.in_ok-held.ensures.nodes) c.next_job-answer.ensures.does c.next_job-answer.ensures.ok)

pub returns-clause-waits : goal.returns-clause-waits
returns-clause-waits g c = on_waits IsCopiedSomewhere c.next_job-answer.new.site.run.log (log_seen c.leave.new.seat) c.next_job-answer.result c.leave.ensures.seen c.next_job-answer.ensures.waits
