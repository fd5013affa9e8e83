use Rattle.std.proofs.Common.{subst}
use Rattle.script_serving.specs.declared.script.LineCommand.TheVariants.{Settle}
use Rattle.cluster_nodes.specs.declared.tasks.CopyTask.{CopyTask}
use Rattle.cluster_state.specs.declared.turn.Turn.{Turn}
use Rattle.cluster_state.specs.declared.turn.Turn.TheVariants.{Work, Done, Busy}
use Rattle.lane_threads.specs.Seats.{log_seen}
use Rattle.cluster_site.specs.Flights.{WaitsWhere}
use Rattle.cluster_site.specs.Turns.{TurnsLine}
use Rattle.cluster_site.proofs.Sections.{takes_none, takes_then, takes_ends}
use Rattle.lane_copies.specs.Jobs.{IsCopiedSomewhere, BeginsNextJob, IsSettlingOn}
use Rattle.lane_copies.proofs.JobCalls.{copied_waited}
use Rattle.lane_copies.proofs.Steps.{IsSettlingYet, settling_yet, settle_waits, settle_goes_on}
use Rattle.lane_copies.proofs.settling.settle_on.Goals as goal

pub loop-init : goal.loop-init
loop-init g c =
    takes_none c.args.lanes.now.lock.now Settle c.args.at c.args.seat.now c.requires.seat (IsSettlingYet c.args.lanes.now.setup.nodes c.args.at c.args.left)
    (settling_yet c.args.lanes.now.setup.nodes c.args.at c.args.left (log_seen c.args.seat.now) c.requires.settling)

pub give_way-requires : goal.give_way-requires
give_way-requires g c =
    let log = log_seen c.begin.new.seat in
    let copied : IsCopiedSomewhere log = subst (WaitsWhere {W = CopyTask} IsCopiedSomewhere log) c.in-Busy.is c.in_ok-begin.ensures.waits in
    copied_waited copied.0.0 log copied.1

pub returns-in-Done : goal.returns-in-Done
returns-in-Done g c =
    let turns : TurnsLine c.args.lanes.now.setup.log (BeginsNextJob c.args.lanes.now.setup.nodes c.args.at c.begin.new.left) (IsSettlingOn c.args.lanes.now.setup.nodes c.args.at c.begin.new.left) c.args.lanes.now.lock.now Settle c.args.at c.loop.seat c.begin.new.seat Done =
    subst (λ (turn : Turn CopyTask). TurnsLine c.args.lanes.now.setup.log (BeginsNextJob c.args.lanes.now.setup.nodes c.args.at c.begin.new.left) (IsSettlingOn c.args.lanes.now.setup.nodes c.args.at c.begin.new.left) c.args.lanes.now.lock.now Settle c.args.at c.loop.seat c.begin.new.seat turn) c.in-Done.is c.in_ok-begin.ensures.turns in
    takes_ends c.args.lanes.now.lock.now Settle c.args.at c.args.seat.now c.loop.seat c.begin.new.seat c.loop.invariant turns

pub bring_over-requires-clause-seat : goal.bring_over-requires-clause-seat
bring_over-requires-clause-seat g c =
    let turns : TurnsLine c.args.lanes.now.setup.log (BeginsNextJob c.args.lanes.now.setup.nodes c.args.at c.begin.new.left) (IsSettlingOn c.args.lanes.now.setup.nodes c.args.at c.begin.new.left) c.args.lanes.now.lock.now Settle c.args.at c.loop.seat c.begin.new.seat (Work c.in-Work.task) =
    subst (λ (turn : Turn CopyTask). TurnsLine c.args.lanes.now.setup.log (BeginsNextJob c.args.lanes.now.setup.nodes c.args.at c.begin.new.left) (IsSettlingOn c.args.lanes.now.setup.nodes c.args.at c.begin.new.left) c.args.lanes.now.lock.now Settle c.args.at c.loop.seat c.begin.new.seat turn) c.in-Work.is c.in_ok-begin.ensures.turns in
    turns.taken.seat

pub bring_over-requires-clause-copying : goal.bring_over-requires-clause-copying
bring_over-requires-clause-copying g c =
    let turns : TurnsLine c.args.lanes.now.setup.log (BeginsNextJob c.args.lanes.now.setup.nodes c.args.at c.begin.new.left) (IsSettlingOn c.args.lanes.now.setup.nodes c.args.at c.begin.new.left) c.args.lanes.now.lock.now Settle c.args.at c.loop.seat c.begin.new.seat (Work c.in-Work.task) =
    subst (λ (turn : Turn CopyTask). TurnsLine c.args.lanes.now.setup.log (BeginsNextJob c.args.lanes.now.setup.nodes c.args.at c.begin.new.left) (IsSettlingOn c.args.lanes.now.setup.nodes c.args.at c.begin.new.left) c.args.lanes.now.lock.now Settle c.args.at c.loop.seat c.begin.new.seat turn) c.in-Work.is c.in_ok-begin.ensures.turns in
    turns.now.copying

pub loop-preserved-in-Continue-branch-3 : goal.loop-preserved-in-Continue-branch-3
loop-preserved-in-Continue-branch-3 g c =
    let turns : TurnsLine c.args.lanes.now.setup.log (BeginsNextJob c.args.lanes.now.setup.nodes c.args.at c.begin.new.left) (IsSettlingOn c.args.lanes.now.setup.nodes c.args.at c.begin.new.left) c.args.lanes.now.lock.now Settle c.args.at c.loop.seat c.begin.new.seat Busy =
    subst (λ (turn : Turn CopyTask). TurnsLine c.args.lanes.now.setup.log (BeginsNextJob c.args.lanes.now.setup.nodes c.args.at c.begin.new.left) (IsSettlingOn c.args.lanes.now.setup.nodes c.args.at c.begin.new.left) c.args.lanes.now.lock.now Settle c.args.at c.loop.seat c.begin.new.seat turn) c.in-Busy.is c.in_ok-begin.ensures.turns in
    takes_then c.args.lanes.now.lock.now Settle c.args.at c.args.seat.now c.loop.seat c.begin.new.seat c.loop.invariant (IsSettlingYet c.args.lanes.now.setup.nodes c.args.at c.begin.new.left)
    (settle_waits c.args.lanes.now.setup.nodes c.args.lanes.now.lock.now c.args.at c.begin.new.left c.loop.seat c.begin.new.seat turns)

pub loop-preserved : goal.loop-preserved
loop-preserved g c =
    let turns : TurnsLine c.args.lanes.now.setup.log (BeginsNextJob c.args.lanes.now.setup.nodes c.args.at c.begin.new.left) (IsSettlingOn c.args.lanes.now.setup.nodes c.args.at c.begin.new.left) c.args.lanes.now.lock.now Settle c.args.at c.loop.seat c.begin.new.seat (Work c.in-Work.task) =
    subst (λ (turn : Turn CopyTask). TurnsLine c.args.lanes.now.setup.log (BeginsNextJob c.args.lanes.now.setup.nodes c.args.at c.begin.new.left) (IsSettlingOn c.args.lanes.now.setup.nodes c.args.at c.begin.new.left) c.args.lanes.now.lock.now Settle c.args.at c.loop.seat c.begin.new.seat turn) c.in-Work.is c.in_ok-begin.ensures.turns in
    takes_then c.args.lanes.now.lock.now Settle c.args.at c.args.seat.now c.begin.new.seat c.bring_over.new.seat
    (takes_then c.args.lanes.now.lock.now Settle c.args.at c.args.seat.now c.loop.seat c.begin.new.seat c.loop.invariant (BeginsNextJob c.args.lanes.now.setup.nodes c.args.at c.begin.new.left c.in-Work.task) turns)
    (IsSettlingYet c.args.lanes.now.setup.nodes c.args.at c.begin.new.left)
    (settle_goes_on c.args.lanes.now.setup.nodes c.args.lanes.now.lock.now c.args.at c.begin.new.left c.in-Work.task c.begin.new.seat c.bring_over.new.seat turns.now c.in_ok-bring_over-in-Work.ensures)
