use Rattle.script_serving.specs.declared.script.LineCommand.TheVariants.{Ask}
use Rattle.cluster_site.specs.Turns.{NeverWaits}
use Rattle.cluster_site.proofs.Sections.{found_entered, call_extends, call_turns}
use Rattle.lane_lines.specs.Reads.{IsAskingTicket}
use Rattle.lane_lines.proofs.Searches.{ask_shows, any_query}
use Rattle.lane_lines.proofs.searching.start_ask.Goals as goal

pub leave-requires-clause-extends : goal.leave-requires-clause-extends
leave-requires-clause-extends g c =
    let entered = found_entered c.args.lanes.now.lock.now c.args.at c.args.seat.now c.enter_site.new.seat c.value-site.result.now c.in_ok-held.held c.value-site.ensures.value c.in_ok-held.ensures.entered c.in_ok-held.ensures.logged in
    call_extends c.args.lanes.now.lock.now (Ask c.args.t any_query) c.args.at c.args.seat.now c.enter_site.new.seat c.value-site.result.now c.ask_start-answer.new.self entered c.ask_start-answer.result
    (c.ask_start-answer.ensures.does any_query) c.ask_start-answer.ensures.err

pub returns : goal.returns
returns g c = λ query.
    let entered = found_entered c.args.lanes.now.lock.now c.args.at c.args.seat.now c.enter_site.new.seat c.value-site.result.now c.in_ok-held.held c.value-site.ensures.value c.in_ok-held.ensures.entered c.in_ok-held.ensures.logged in
    let found = c.value-site.result.now in
    let new = c.ask_start-answer.new.self in
    call_turns c.args.lanes.now.lock.now (Ask c.args.t query) c.args.at c.args.seat.now c.enter_site.new.seat found new entered c.leave.new.seat c.leave.ensures.seat c.leave.ensures.seen
    (IsAskingTicket c.args.at c.args.t) NeverWaits _ (c.in_ok-answer.ensures.does query) (ask_shows c.args.at c.args.t found.run new.run _ c.in_ok-answer.ensures.ok c.in_ok-answer.ensures.replied c.in_ok-answer.ensures.begun)
