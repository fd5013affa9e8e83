use Rattle.script_serving.specs.declared.script.LineCommand.TheVariants.{Settle}
use Rattle.cluster_site.specs.Turns.{NeverWaits}
use Rattle.cluster_site.proofs.Sections.{found_entered, found_nodes, call_extends, on_call_turns}
use Rattle.lane_copies.specs.Jobs.{IsSettlingOn}
use Rattle.lane_copies.proofs.JobCalls.{on_settle_starts}
use Rattle.lane_copies.proofs.settling.start.Goals as goal

pub leave-requires-clause-extends : goal.leave-requires-clause-extends
leave-requires-clause-extends g c =
    let entered = found_entered c.args.lanes.now.lock.now c.args.at c.args.seat.now c.enter_site.new.seat c.value.result.now c.in_ok-held.held c.value.ensures.value c.in_ok-held.ensures.entered c.in_ok-held.ensures.logged in
    call_extends c.args.lanes.now.lock.now Settle c.args.at c.args.seat.now c.enter_site.new.seat c.value.result.now c.settle_start-answer.new.self entered c.settle_start-answer.result c.settle_start-answer.ensures.does c.settle_start-answer.ensures.err

pub returns : goal.returns
returns g c =
    let entered = found_entered c.args.lanes.now.lock.now c.args.at c.args.seat.now c.enter_site.new.seat c.value.result.now c.in_ok-held.held c.value.ensures.value c.in_ok-held.ensures.entered c.in_ok-held.ensures.logged in
    let found = c.value.result.now in
    let new = c.settle_start-answer.new.self in
    on_call_turns c.args.lanes.now.lock.now Settle c.args.at c.args.seat.now c.enter_site.new.seat found new entered c.leave.new.seat c.leave.ensures.seat c.leave.ensures.seen
    (IsSettlingOn c.args.lanes.now.setup.nodes c.args.at) NeverWaits c.settle_start-answer.result c.settle_start-answer.ensures.does
    (on_settle_starts c.args.lanes.now.setup.nodes c.args.at found new c.settle_start-answer.result (found_nodes c.args.lanes.now.setup.nodes c.value.result.now c.in_ok-held.held c.value.ensures.value c.in_ok-held.ensures.nodes) c.settle_start-answer.ensures.does c.settle_start-answer.ensures.ok c.settle_start-answer.ensures.replied)
