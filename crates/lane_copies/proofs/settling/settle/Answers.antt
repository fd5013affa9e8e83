use Rattle.std.proofs.Common.{subst}
use Rattle.script_serving.specs.declared.script.LineCommand.TheVariants.{Settle}
use Rattle.cluster_nodes.specs.declared.tasks.SettleTask.{SettleTask}
use Rattle.cluster_state.specs.declared.turn.Turn.{Turn}
use Rattle.cluster_state.specs.declared.turn.Turn.TheVariants.{Work, Busy}
use Rattle.cluster_site.specs.Turns.{NeverWaits, TurnsLine}
use Rattle.cluster_site.proofs.Sections.{on_takes_ends}
use Rattle.lane_copies.specs.Jobs.{IsSettlingOn}
use Rattle.lane_copies.proofs.settling.settle.Goals as goal

pub unreachable-requires : goal.unreachable-requires
unreachable-requires g c =
    let turns : TurnsLine c.args.lanes.now.setup.log (IsSettlingOn c.args.lanes.now.setup.nodes c.args.at) NeverWaits c.args.lanes.now.lock.now Settle c.args.at c.args.seat.now c.start.new.seat Busy =
    subst (λ (turn : Turn SettleTask). TurnsLine c.args.lanes.now.setup.log (IsSettlingOn c.args.lanes.now.setup.nodes c.args.at) NeverWaits c.args.lanes.now.lock.now Settle c.args.at c.args.seat.now c.start.new.seat turn) c.in-Busy.is c.in_ok-start.ensures in
    turns.now

pub settle_on-requires-clause-seat : goal.settle_on-requires-clause-seat
settle_on-requires-clause-seat g c =
    let turns : TurnsLine c.args.lanes.now.setup.log (IsSettlingOn c.args.lanes.now.setup.nodes c.args.at) NeverWaits c.args.lanes.now.lock.now Settle c.args.at c.args.seat.now c.start.new.seat (Work c.in-Work.left) =
    subst (λ (turn : Turn SettleTask). TurnsLine c.args.lanes.now.setup.log (IsSettlingOn c.args.lanes.now.setup.nodes c.args.at) NeverWaits c.args.lanes.now.lock.now Settle c.args.at c.args.seat.now c.start.new.seat turn) c.in-Work.is c.in_ok-start.ensures in
    turns.taken.seat

pub settle_on-requires-clause-settling : goal.settle_on-requires-clause-settling
settle_on-requires-clause-settling g c =
    let turns : TurnsLine c.args.lanes.now.setup.log (IsSettlingOn c.args.lanes.now.setup.nodes c.args.at) NeverWaits c.args.lanes.now.lock.now Settle c.args.at c.args.seat.now c.start.new.seat (Work c.in-Work.left) =
    subst (λ (turn : Turn SettleTask). TurnsLine c.args.lanes.now.setup.log (IsSettlingOn c.args.lanes.now.setup.nodes c.args.at) NeverWaits c.args.lanes.now.lock.now Settle c.args.at c.args.seat.now c.start.new.seat turn) c.in-Work.is c.in_ok-start.ensures in
    turns.now

pub returns-in-Work : goal.returns-in-Work
returns-in-Work g c =
    let turns : TurnsLine c.args.lanes.now.setup.log (IsSettlingOn c.args.lanes.now.setup.nodes c.args.at) NeverWaits c.args.lanes.now.lock.now Settle c.args.at c.args.seat.now c.start.new.seat (Work c.in-Work.left) =
    subst (λ (turn : Turn SettleTask). TurnsLine c.args.lanes.now.setup.log (IsSettlingOn c.args.lanes.now.setup.nodes c.args.at) NeverWaits c.args.lanes.now.lock.now Settle c.args.at c.args.seat.now c.start.new.seat turn) c.in-Work.is c.in_ok-start.ensures in
    on_takes_ends c.args.lanes.now.lock.now Settle c.args.at c.args.seat.now c.start.new.seat c.settle_on.new.seat turns c.settle_on.result c.settle_on.ensures
