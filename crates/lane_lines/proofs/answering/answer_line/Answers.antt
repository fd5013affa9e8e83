use Rattle.std.proofs.Common.{subst, sym}
use Rattle.std.specs.Prelude.{Option}
use Rattle.history_rules.specs.declared.entry.Event.{Event}
use Rattle.history_rules.specs.Lines.{last_of_line}
use Rattle.history_book.specs.Log.{printed}
use Rattle.cluster_site.specs.Given.{AsksFor}
use Rattle.lane_threads.specs.Seats.{log_seen}
use Rattle.cluster_site.proofs.Asked.{asked_for}
use Rattle.cluster_site.proofs.Sections.{found_entered, found_legal, call_extends, on_call_ends}
use Rattle.lane_lines.proofs.Searches.{evaluated_stays}
use Rattle.lane_lines.proofs.answering.answer_line.Goals as goal

pub answer_end-ended-requires-clause-right : goal.answer_end-ended-requires-clause-right
answer_end-ended-requires-clause-right g c =
    let entered = found_entered c.args.lanes.now.lock.now c.args.at c.args.seat.now c.enter_site.new.seat c.value.result.now c.in_ok-held.held c.value.ensures.value c.in_ok-held.ensures.entered c.in_ok-held.ensures.logged in
    evaluated_stays c.value.result.now.run.nodes c.args.at (log_seen c.args.seat.now) c.value.result.now.run.log c.args.query.now c.args.answer (found_legal c.value.result.now c.in_ok-held.held c.value.ensures.value c.in_ok-held.ensures.legal) entered.has.apart
    entered.has.stays c.requires.evaluated

pub leave-requires-clause-extends : goal.leave-requires-clause-extends
leave-requires-clause-extends g c =
    let entered = found_entered c.args.lanes.now.lock.now c.args.at c.args.seat.now c.enter_site.new.seat c.value.result.now c.in_ok-held.held c.value.ensures.value c.in_ok-held.ensures.entered c.in_ok-held.ensures.logged in
    let found = c.value.result.now in
    let some = asked_for (printed found.run.log) (last_of_line c.args.at (printed found.run.log)) c.args.query.now c.args.answer
    (evaluated_stays found.run.nodes c.args.at (log_seen c.args.seat.now) found.run.log c.args.query.now c.args.answer (found_legal c.value.result.now c.in_ok-held.held c.value.ensures.value c.in_ok-held.ensures.legal) entered.has.apart entered.has.stays c.requires.evaluated) in
    call_extends c.args.lanes.now.lock.now some.0 c.args.at c.args.seat.now c.enter_site.new.seat found c.answer_end-ended.new.self entered c.answer_end-ended.result (c.answer_end-ended.ensures.does some.0 some.1) c.answer_end-ended.ensures.err

pub returns : goal.returns
returns g c = λ command asks.
    let entered = found_entered c.args.lanes.now.lock.now c.args.at c.args.seat.now c.enter_site.new.seat c.value.result.now c.in_ok-held.held c.value.ensures.value c.in_ok-held.ensures.entered c.in_ok-held.ensures.logged in
    let here = subst (λ (last : Option Event). AsksFor command c.args.query.now last) (sym entered.has.stays.last) asks in
    on_call_ends c.args.lanes.now.lock.now command c.args.at c.args.seat.now c.enter_site.new.seat c.value.result.now c.answer_end-ended.new.self entered c.leave.new.seat c.leave.ensures.seat
    c.leave.ensures.seen c.answer_end-ended.result (c.answer_end-ended.ensures.does command here) c.answer_end-ended.ensures.replied
