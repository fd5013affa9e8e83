use Rattle.std.proofs.Common.{subst}
use Rattle.script_serving.specs.declared.script.LineCommand.TheVariants.{Copy}
use Rattle.cluster_nodes.specs.declared.tasks.CopyTask.{CopyTask}
use Rattle.cluster_state.specs.declared.turn.Turn.{Turn}
use Rattle.cluster_state.specs.declared.turn.Turn.TheVariants.{Work, Done, Busy}
use Rattle.history_book.specs.Log.{Log}
use Rattle.cluster_state.specs.CopyCalls.{IsBeingCopied}
use Rattle.lane_threads.specs.Seats.{log_seen}
use Rattle.cluster_site.specs.Flights.{WaitsWhere}
use Rattle.cluster_site.specs.Turns.{IsUnbegunIn, TurnsLine}
use Rattle.cluster_site.proofs.Sections.{takes_first, takes_then, takes_ends, on_takes_ends}
use Rattle.lane_copies.specs.Jobs.{BeginsCopy}
use Rattle.lane_copies.proofs.JobCalls.{copied_waited}
use Rattle.lane_copies.proofs.Steps.{on_copy_ended}
use Rattle.lane_copies.proofs.copying.copy.Goals as goal

pub loop-init : goal.loop-init
loop-init g c = takes_first c.args.lanes.now.lock.now (Copy c.args.n) c.args.at c.args.seat.now c.requires.seat c.requires.fresh

pub loop-preserved : goal.loop-preserved
loop-preserved g c =
    let turns : TurnsLine c.args.lanes.now.setup.log (BeginsCopy c.args.at c.args.n) (IsUnbegunIn c.args.at) c.args.lanes.now.lock.now (Copy c.args.n) c.args.at c.loop.seat c.start.new.seat Busy =
    subst (λ (turn : Turn CopyTask). TurnsLine c.args.lanes.now.setup.log (BeginsCopy c.args.at c.args.n) (IsUnbegunIn c.args.at) c.args.lanes.now.lock.now (Copy c.args.n) c.args.at c.loop.seat c.start.new.seat turn) c.in-Busy.is c.in_ok-start.ensures.turns in
    takes_then c.args.lanes.now.lock.now (Copy c.args.n) c.args.at c.args.seat.now c.loop.seat c.start.new.seat c.loop.invariant (IsUnbegunIn c.args.at) turns

pub give_way-requires : goal.give_way-requires
give_way-requires g c =
    let log = log_seen c.start.new.seat in
    let copied : IsBeingCopied log c.args.n.0 = subst (WaitsWhere {W = CopyTask} (λ (l : Log). IsBeingCopied l c.args.n.0) log) c.in-Busy.is c.in_ok-start.ensures.waits in
    copied_waited c.args.n.0 log copied

pub returns-in-Done : goal.returns-in-Done
returns-in-Done g c =
    let turns : TurnsLine c.args.lanes.now.setup.log (BeginsCopy c.args.at c.args.n) (IsUnbegunIn c.args.at) c.args.lanes.now.lock.now (Copy c.args.n) c.args.at c.loop.seat c.start.new.seat Done =
    subst (λ (turn : Turn CopyTask). TurnsLine c.args.lanes.now.setup.log (BeginsCopy c.args.at c.args.n) (IsUnbegunIn c.args.at) c.args.lanes.now.lock.now (Copy c.args.n) c.args.at c.loop.seat c.start.new.seat turn) c.in-Done.is c.in_ok-start.ensures.turns in
    takes_ends c.args.lanes.now.lock.now (Copy c.args.n) c.args.at c.args.seat.now c.loop.seat c.start.new.seat c.loop.invariant turns

pub bring_over-requires-clause-seat : goal.bring_over-requires-clause-seat
bring_over-requires-clause-seat g c =
    let turns : TurnsLine c.args.lanes.now.setup.log (BeginsCopy c.args.at c.args.n) (IsUnbegunIn c.args.at) c.args.lanes.now.lock.now (Copy c.args.n) c.args.at c.loop.seat c.start.new.seat (Work c.in-Work.task) =
    subst (λ (turn : Turn CopyTask). TurnsLine c.args.lanes.now.setup.log (BeginsCopy c.args.at c.args.n) (IsUnbegunIn c.args.at) c.args.lanes.now.lock.now (Copy c.args.n) c.args.at c.loop.seat c.start.new.seat turn) c.in-Work.is c.in_ok-start.ensures.turns in
    turns.taken.seat

pub bring_over-requires-clause-copying : goal.bring_over-requires-clause-copying
bring_over-requires-clause-copying g c =
    let turns : TurnsLine c.args.lanes.now.setup.log (BeginsCopy c.args.at c.args.n) (IsUnbegunIn c.args.at) c.args.lanes.now.lock.now (Copy c.args.n) c.args.at c.loop.seat c.start.new.seat (Work c.in-Work.task) =
    subst (λ (turn : Turn CopyTask). TurnsLine c.args.lanes.now.setup.log (BeginsCopy c.args.at c.args.n) (IsUnbegunIn c.args.at) c.args.lanes.now.lock.now (Copy c.args.n) c.args.at c.loop.seat c.start.new.seat turn) c.in-Work.is c.in_ok-start.ensures.turns in
    turns.now.copying

pub returns-in-Work : goal.returns-in-Work
returns-in-Work g c =
    let turns : TurnsLine c.args.lanes.now.setup.log (BeginsCopy c.args.at c.args.n) (IsUnbegunIn c.args.at) c.args.lanes.now.lock.now (Copy c.args.n) c.args.at c.loop.seat c.start.new.seat (Work c.in-Work.task) =
    subst (λ (turn : Turn CopyTask). TurnsLine c.args.lanes.now.setup.log (BeginsCopy c.args.at c.args.n) (IsUnbegunIn c.args.at) c.args.lanes.now.lock.now (Copy c.args.n) c.args.at c.loop.seat c.start.new.seat turn) c.in-Work.is c.in_ok-start.ensures.turns in
    on_takes_ends c.args.lanes.now.lock.now (Copy c.args.n) c.args.at c.args.seat.now c.start.new.seat c.bring_over.new.seat
    (takes_then c.args.lanes.now.lock.now (Copy c.args.n) c.args.at c.args.seat.now c.loop.seat c.start.new.seat c.loop.invariant (BeginsCopy c.args.at c.args.n c.in-Work.task) turns) c.bring_over.result
    (on_copy_ended c.args.lanes.now.setup.log c.args.lanes.now.setup.nodes c.args.lanes.now.lock.now c.args.at c.in-Work.task c.args.n c.bring_over.result c.start.new.seat c.bring_over.new.seat turns.now c.bring_over.ensures)
