use Rattle.std.proofs.Common.{◌∙◌}
use Rattle.script_serving.specs.declared.script.LineCommand.TheVariants.{Commit}
use Rattle.cluster_site.specs.Turns.{NeverWaits}
use Rattle.cluster_site.proofs.Sections.{found_entered, if_ok_two, call_extends, on_call_turns}
use Rattle.lane_lines.specs.Commits.{HasBegunCommit}
use Rattle.lane_lines.proofs.Commits.{step_shows}
use Rattle.lane_lines.proofs.committing.step.Goals as goal

pub leave-requires-clause-extends : goal.leave-requires-clause-extends
leave-requires-clause-extends g c =
    let entered = found_entered c.args.lanes.now.lock.now c.args.at c.args.seat.now c.enter_site.new.seat c.value.result.now c.in_ok-held.held c.value.ensures.value c.in_ok-held.ensures.entered c.in_ok-held.ensures.logged in
    call_extends c.args.lanes.now.lock.now (Commit c.args.task.now.node) c.args.at c.args.seat.now c.enter_site.new.seat c.value.result.now c.commit_step-answer.new.self entered c.commit_step-answer.result c.commit_step-answer.ensures.does c.commit_step-answer.ensures.err

pub commit_step-answer-requires-clause-started : goal.commit_step-answer-requires-clause-started
commit_step-answer-requires-clause-started g c =
    let entered = found_entered c.args.lanes.now.lock.now c.args.at c.args.seat.now c.enter_site.new.seat c.value.result.now c.in_ok-held.held c.value.ensures.value c.in_ok-held.ensures.entered c.in_ok-held.ensures.logged in
    entered.has.stays.last ∙ c.requires.begun

pub returns : goal.returns
returns g c =
    let entered = found_entered c.args.lanes.now.lock.now c.args.at c.args.seat.now c.enter_site.new.seat c.value.result.now c.in_ok-held.held c.value.ensures.value c.in_ok-held.ensures.entered c.in_ok-held.ensures.logged in
    let found = c.value.result.now in
    let new = c.commit_step-answer.new.self in
    on_call_turns c.args.lanes.now.lock.now (Commit c.args.task.now.node) c.args.at c.args.seat.now c.enter_site.new.seat found new entered c.leave.new.seat c.leave.ensures.seat c.leave.ensures.seen (λ made. HasBegunCommit c.args.at c.args.task.now) (NeverWaits)
    c.commit_step-answer.result c.commit_step-answer.ensures.does
    (if_ok_two c.commit_step-answer.result (λ turn. step_shows c.args.at c.args.task.now found.run new.run turn (entered.has.stays.last ∙ c.requires.begun)) c.commit_step-answer.ensures.ok c.commit_step-answer.ensures.replied)
