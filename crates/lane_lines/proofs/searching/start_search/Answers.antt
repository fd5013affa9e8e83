use Rattle.script_serving.specs.declared.script.LineCommand.TheVariants.{Search}
use Rattle.cluster_site.specs.Turns.{NeverWaits}
use Rattle.cluster_site.proofs.Sections.{found_entered, if_ok_three, call_extends, on_call_turns}
use Rattle.lane_lines.specs.Reads.{IsSearchingNode}
use Rattle.lane_lines.proofs.Searches.{search_shows, any_query}
use Rattle.lane_lines.proofs.searching.start_search.Goals as goal

pub leave-requires-clause-extends : goal.leave-requires-clause-extends
leave-requires-clause-extends g c =
    let entered = found_entered c.args.lanes.now.lock.now c.args.at c.args.seat.now c.enter_site.new.seat c.value.result.now c.in_ok-held.held c.value.ensures.value c.in_ok-held.ensures.entered c.in_ok-held.ensures.logged in
    call_extends c.args.lanes.now.lock.now (Search c.args.n any_query) c.args.at c.args.seat.now c.enter_site.new.seat c.value.result.now c.search_start-answer.new.self entered c.search_start-answer.result
    (c.search_start-answer.ensures.does any_query) c.search_start-answer.ensures.err

pub returns : goal.returns
returns g c = λ query.
    let entered = found_entered c.args.lanes.now.lock.now c.args.at c.args.seat.now c.enter_site.new.seat c.value.result.now c.in_ok-held.held c.value.ensures.value c.in_ok-held.ensures.entered c.in_ok-held.ensures.logged in
    let found = c.value.result.now in
    let new = c.search_start-answer.new.self in
    on_call_turns c.args.lanes.now.lock.now (Search c.args.n query) c.args.at c.args.seat.now c.enter_site.new.seat found new entered c.leave.new.seat c.leave.ensures.seat c.leave.ensures.seen
    (IsSearchingNode c.args.at c.args.n) NeverWaits c.search_start-answer.result (c.search_start-answer.ensures.does query)
    (if_ok_three c.search_start-answer.result (λ turn. search_shows c.args.at c.args.n found.run new.run turn) c.search_start-answer.ensures.ok c.search_start-answer.ensures.replied c.search_start-answer.ensures.begun)
