use Rattle.std.proofs.Common.{refl, subst, sym, Err, Result}
use Rattle.std.specs.Prelude.{Option}
use Rattle.history_rules.specs.declared.entry.Event.{Event}
use Rattle.history_rules.specs.Lines.{start_entry}
use Rattle.history_book.specs.Log.{printed}
use Rattle.history_book.specs.Turns.{AreInTurn}
use Rattle.cluster_site.specs.Sites.{SiteRun}
use Rattle.cluster_state.specs.CopyCalls.{CopiesFor}
use Rattle.lane_threads.specs.Seats.{log_seen}
use Rattle.cluster_site.proofs.Sections.{call_extends, found_entered, found_legal, found_nodes, log_extends}
use Rattle.lane_copies.specs.Jobs.{IsCopyingBy}
use Rattle.lane_copies.proofs.JobCalls.{is_copying, on_take_leaves}
use Rattle.lane_copies.proofs.Stays.{file_stays}
use Rattle.lane_copies.proofs.Steps.{some_copies, on_turns}
use Rattle.lane_copies.proofs.jobs.bring_back.Goals as goal

pub leave-requires-clause-extends : goal.leave-requires-clause-extends
leave-requires-clause-extends g c =
    let entered = found_entered c.args.lanes.now.lock.now c.args.at c.args.seat.now c.enter_site.new.seat c.value-site.result.now c.in_ok-held.held c.value-site.ensures.value c.in_ok-held.ensures.entered c.in_ok-held.ensures.logged in
    let found = c.value-site.result.now in
    let some = some_copies c.args.task.now.node.0 (start_entry c.args.at (printed (log_seen c.args.seat.now))) c.requires.out.copying.started in
    let none : Result (Unit {0}) (Unit {0}) = Err tt in
    log_extends c.args.lanes.now.lock.now some.0 c.args.at c.args.seat.now c.enter_site.new.seat found found entered none tt refl

pub copy_arrived-answer-requires-clause-copying : goal.copy_arrived-answer-requires-clause-copying
copy_arrived-answer-requires-clause-copying g c =
    let entered = found_entered c.args.lanes.now.lock.now c.args.at c.args.seat.now c.enter_site.new.seat c.value-site.result.now c.in_ok-held.held c.value-site.ensures.value c.in_ok-held.ensures.entered c.in_ok-held.ensures.logged in
    let out = file_stays c.args.at (log_seen c.args.seat.now) c.value-site.result.now.run.log entered.has.apart entered.has.stays (subst (λ (s : SiteRun). AreInTurn (printed s.run.log)) (sym c.value-site.ensures.value) c.in_ok-held.ensures.turns) c.args.task.now c.args.file.now c.requires.out in
    is_copying c.args.at c.args.task.now c.value-site.result.now.run.log c.has_job.result c.has_job.ensures c.if-not-has_job.false out.copying

pub copy_arrived-answer-requires-clause-out : goal.copy_arrived-answer-requires-clause-out
copy_arrived-answer-requires-clause-out g c =
    let entered = found_entered c.args.lanes.now.lock.now c.args.at c.args.seat.now c.enter_site.new.seat c.value-site.result.now c.in_ok-held.held c.value-site.ensures.value c.in_ok-held.ensures.entered c.in_ok-held.ensures.logged in
    let out = file_stays c.args.at (log_seen c.args.seat.now) c.value-site.result.now.run.log entered.has.apart entered.has.stays (subst (λ (s : SiteRun). AreInTurn (printed s.run.log)) (sym c.value-site.ensures.value) c.in_ok-held.ensures.turns) c.args.task.now c.args.file.now c.requires.out in
    out.out

pub copy_arrived-answer-requires-clause-met : goal.copy_arrived-answer-requires-clause-met
copy_arrived-answer-requires-clause-met g c =
    let entered = found_entered c.args.lanes.now.lock.now c.args.at c.args.seat.now c.enter_site.new.seat c.value-site.result.now c.in_ok-held.held c.value-site.ensures.value c.in_ok-held.ensures.entered c.in_ok-held.ensures.logged in
    let out = file_stays c.args.at (log_seen c.args.seat.now) c.value-site.result.now.run.log entered.has.apart entered.has.stays (subst (λ (s : SiteRun). AreInTurn (printed s.run.log)) (sym c.value-site.ensures.value) c.in_ok-held.ensures.turns) c.args.task.now c.args.file.now c.requires.out in
    out.met

pub copy_arrived-answer-requires-clause-meta : goal.copy_arrived-answer-requires-clause-meta
copy_arrived-answer-requires-clause-meta g c = c.requires.out.meta

pub leave-requires-2-clause-extends : goal.leave-requires-2-clause-extends
leave-requires-2-clause-extends g c =
    let entered = found_entered c.args.lanes.now.lock.now c.args.at c.args.seat.now c.enter_site.new.seat c.value-site.result.now c.in_ok-held.held c.value-site.ensures.value c.in_ok-held.ensures.entered c.in_ok-held.ensures.logged in
    let found = c.value-site.result.now in
    let some = some_copies c.args.task.now.node.0 (start_entry c.args.at (printed (log_seen c.args.seat.now))) c.requires.out.copying.started in
    let asks = subst (λ (o : Option Event). CopiesFor some.0 o) (sym entered.has.stays.start) some.1 in
    call_extends c.args.lanes.now.lock.now some.0 c.args.at c.args.seat.now c.enter_site.new.seat found c.copy_arrived-answer.new.self entered c.copy_arrived-answer.result (c.copy_arrived-answer.ensures.does some.0 asks) c.copy_arrived-answer.ensures.err

pub returns : goal.returns
returns g c =
    let entered = found_entered c.args.lanes.now.lock.now c.args.at c.args.seat.now c.enter_site.new.seat c.value-site.result.now c.in_ok-held.held c.value-site.ensures.value c.in_ok-held.ensures.entered c.in_ok-held.ensures.logged in
    let found = c.value-site.result.now in
    let out = file_stays c.args.at (log_seen c.args.seat.now) found.run.log entered.has.apart entered.has.stays (subst (λ (s : SiteRun). AreInTurn (printed s.run.log)) (sym c.value-site.ensures.value) c.in_ok-held.ensures.turns) c.args.task.now c.args.file.now c.requires.out in
    on_turns c.args.lanes.now.setup.nodes c.args.lanes.now.lock.now c.args.at c.args.task.now c.args.seat.now c.enter_site.new.seat c.leave-2.new.seat found c.copy_arrived-answer.new.self entered
    (found_legal found c.in_ok-held.held c.value-site.ensures.value c.in_ok-held.ensures.legal) (found_nodes c.args.lanes.now.setup.nodes found c.in_ok-held.held c.value-site.ensures.value c.in_ok-held.ensures.nodes) c.leave-2.ensures.seat c.leave-2.ensures.seen c.requires.out.copying (λ taken. IsCopyingBy c.args.at c.args.task.now) c.copy_arrived-answer.result c.copy_arrived-answer.ensures.does
    (on_take_leaves c.args.at c.args.task.now found.run c.copy_arrived-answer.new.self.run out.copying
    (is_copying c.args.at c.args.task.now found.run.log c.has_job.result c.has_job.ensures c.if-not-has_job.false out.copying) c.args.file.now c.copy_arrived-answer.result c.copy_arrived-answer.ensures.ok c.copy_arrived-answer.ensures.stops)
