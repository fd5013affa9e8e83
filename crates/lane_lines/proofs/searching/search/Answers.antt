use Rattle.std.proofs.Common.{subst}
use Rattle.searcher_switch.specs.declared.searchers.Lease.{Lease}
use Rattle.seg_reader.specs.Shown.{Shown}
use Rattle.script_serving.specs.declared.script.LineCommand.TheVariants.{Search}
use Rattle.cluster_state.specs.declared.turn.Turn.{Turn}
use Rattle.cluster_state.specs.declared.turn.Turn.TheVariants.{Work, Done, Busy}
use Rattle.lane_threads.specs.Seats.{log_seen}
use Rattle.cluster_site.specs.Turns.{NeverWaits, TurnsLine}
use Rattle.cluster_site.proofs.Sections.{on_takes_ends}
use Rattle.lane_lines.specs.Reads.{IsSearchingNode}
use Rattle.lane_lines.proofs.Searches.{search_evaluated, search_asks}
use Rattle.lane_lines.proofs.searching.search.Goals as goal

pub unreachable-requires : goal.unreachable-requires
unreachable-requires g c =
    let turns : TurnsLine c.args.lanes.now.setup.log (IsSearchingNode c.args.at c.args.n) NeverWaits c.args.lanes.now.lock.now (Search c.args.n c.args.query.now) c.args.at c.args.seat.now c.start_search.new.seat Busy =
    subst (λ (turn : Turn (Lease Shown)). TurnsLine c.args.lanes.now.setup.log (IsSearchingNode c.args.at c.args.n) NeverWaits c.args.lanes.now.lock.now (Search c.args.n c.args.query.now) c.args.at c.args.seat.now c.start_search.new.seat turn) c.in-Busy.is (c.in_ok-start_search.ensures c.args.query.now) in
    turns.now

pub evaluate-requires-clause-sound : goal.evaluate-requires-clause-sound
evaluate-requires-clause-sound g c =
    let turns : TurnsLine c.args.lanes.now.setup.log (IsSearchingNode c.args.at c.args.n) NeverWaits c.args.lanes.now.lock.now (Search c.args.n c.args.query.now) c.args.at c.args.seat.now c.start_search.new.seat (Work c.in-Work.lease) =
    subst (λ (turn : Turn (Lease Shown)). TurnsLine c.args.lanes.now.setup.log (IsSearchingNode c.args.at c.args.n) NeverWaits c.args.lanes.now.lock.now (Search c.args.n c.args.query.now) c.args.at c.args.seat.now c.start_search.new.seat turn) c.in-Work.is (c.in_ok-start_search.ensures c.args.query.now) in
    turns.now.reads.stands.documents.sound

pub answer_line-requires-clause-seat : goal.answer_line-requires-clause-seat
answer_line-requires-clause-seat g c =
    let turns : TurnsLine c.args.lanes.now.setup.log (IsSearchingNode c.args.at c.args.n) NeverWaits c.args.lanes.now.lock.now (Search c.args.n c.args.query.now) c.args.at c.args.seat.now c.start_search.new.seat (Work c.in-Work.lease) =
    subst (λ (turn : Turn (Lease Shown)). TurnsLine c.args.lanes.now.setup.log (IsSearchingNode c.args.at c.args.n) NeverWaits c.args.lanes.now.lock.now (Search c.args.n c.args.query.now) c.args.at c.args.seat.now c.start_search.new.seat turn) c.in-Work.is (c.in_ok-start_search.ensures c.args.query.now) in
    turns.taken.seat

pub answer_line-requires-clause-evaluated : goal.answer_line-requires-clause-evaluated
answer_line-requires-clause-evaluated g c =
    let turns : TurnsLine c.args.lanes.now.setup.log (IsSearchingNode c.args.at c.args.n) NeverWaits c.args.lanes.now.lock.now (Search c.args.n c.args.query.now) c.args.at c.args.seat.now c.start_search.new.seat (Work c.in-Work.lease) =
    subst (λ (turn : Turn (Lease Shown)). TurnsLine c.args.lanes.now.setup.log (IsSearchingNode c.args.at c.args.n) NeverWaits c.args.lanes.now.lock.now (Search c.args.n c.args.query.now) c.args.at c.args.seat.now c.start_search.new.seat turn) c.in-Work.is (c.in_ok-start_search.ensures c.args.query.now) in
    search_evaluated c.args.at c.args.n c.in-Work.lease c.args.query.now c.in_ok-answer-in-Work.answer (log_seen c.start_search.new.seat) turns.now c.in_ok-answer-in-Work.ensures

pub returns-in_ok-answer-in-Work : goal.returns-in_ok-answer-in-Work
returns-in_ok-answer-in-Work g c =
    let turns : TurnsLine c.args.lanes.now.setup.log (IsSearchingNode c.args.at c.args.n) NeverWaits c.args.lanes.now.lock.now (Search c.args.n c.args.query.now) c.args.at c.args.seat.now c.start_search.new.seat (Work c.in-Work.lease) =
    subst (λ (turn : Turn (Lease Shown)). TurnsLine c.args.lanes.now.setup.log (IsSearchingNode c.args.at c.args.n) NeverWaits c.args.lanes.now.lock.now (Search c.args.n c.args.query.now) c.args.at c.args.seat.now c.start_search.new.seat turn) c.in-Work.is (c.in_ok-start_search.ensures c.args.query.now) in
    on_takes_ends c.args.lanes.now.lock.now (Search c.args.n c.args.query.now) c.args.at c.args.seat.now c.start_search.new.seat c.answer_line.new.seat turns c.answer_line.result
    (c.answer_line.ensures (Search c.args.n c.args.query.now) (search_asks c.args.at c.args.n c.args.query.now c.in-Work.lease (log_seen c.start_search.new.seat) turns.now))

pub returns-in-Done : goal.returns-in-Done
returns-in-Done g c =
    let turns : TurnsLine c.args.lanes.now.setup.log (IsSearchingNode c.args.at c.args.n) NeverWaits c.args.lanes.now.lock.now (Search c.args.n c.args.query.now) c.args.at c.args.seat.now c.start_search.new.seat Done =
    subst (λ (turn : Turn (Lease Shown)). TurnsLine c.args.lanes.now.setup.log (IsSearchingNode c.args.at c.args.n) NeverWaits c.args.lanes.now.lock.now (Search c.args.n c.args.query.now) c.args.at c.args.seat.now c.start_search.new.seat turn) c.in-Done.is (c.in_ok-start_search.ensures c.args.query.now) in
    turns
