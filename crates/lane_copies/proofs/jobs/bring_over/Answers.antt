use Rattle.std.proofs.Common.{subst}
use Rattle.cluster_nodes.specs.declared.tasks.FileTask.{FileTask}
use Rattle.cluster_state.specs.declared.turn.Turn.{Turn}
use Rattle.cluster_state.specs.declared.turn.Turn.TheVariants.{Work, Done}
use Rattle.lane_copies.specs.Jobs.{IsCopyingBy, HasFileOut, IsCopyReplied, TurnsJob}
use Rattle.lane_copies.proofs.Steps.{steps_first, steps_then}
use Rattle.lane_copies.proofs.jobs.bring_over.Goals as goal

pub loop-init : goal.loop-init
loop-init g c = steps_first c.args.lanes.now.setup.nodes c.args.lanes.now.lock.now c.args.at c.args.task.now c.args.seat.now c.requires.seat c.requires.copying

pub returns-in-Done : goal.returns-in-Done
returns-in-Done g c =
    let turns : TurnsJob c.args.lanes.now.setup.log (HasFileOut c.args.at c.args.task.now) c.args.lanes.now.setup.nodes c.args.lanes.now.lock.now c.args.at c.args.task.now c.loop.seat c.hand_out.new.seat Done =
    subst (λ (turn : Turn FileTask). TurnsJob c.args.lanes.now.setup.log (HasFileOut c.args.at c.args.task.now) c.args.lanes.now.setup.nodes c.args.lanes.now.lock.now c.args.at c.args.task.now c.loop.seat c.hand_out.new.seat turn) c.in-Done.is c.in_ok-hand_out.ensures in
    steps_then c.args.lanes.now.setup.nodes c.args.lanes.now.lock.now c.args.at c.args.task.now (IsCopyReplied c.args.at) c.args.seat.now c.loop.seat c.hand_out.new.seat c.loop.invariant turns

pub returns-in-Done-2 : goal.returns-in-Done-2
returns-in-Done-2 g c =
    let turns : TurnsJob c.args.lanes.now.setup.log (HasFileOut c.args.at c.args.task.now) c.args.lanes.now.setup.nodes c.args.lanes.now.lock.now c.args.at c.args.task.now c.loop.seat c.hand_out.new.seat (Work c.in-Work.file) =
    subst (λ (turn : Turn FileTask). TurnsJob c.args.lanes.now.setup.log (HasFileOut c.args.at c.args.task.now) c.args.lanes.now.setup.nodes c.args.lanes.now.lock.now c.args.at c.args.task.now c.loop.seat c.hand_out.new.seat turn) c.in-Work.is c.in_ok-hand_out.ensures in
    let brought : TurnsJob c.args.lanes.now.setup.log (λ (taken : Unit {0}). IsCopyingBy c.args.at c.args.task.now) c.args.lanes.now.setup.nodes c.args.lanes.now.lock.now c.args.at c.args.task.now c.hand_out.new.seat c.bring_file.new.seat Done =
    subst (λ (turn : Turn (Unit {0})). TurnsJob c.args.lanes.now.setup.log (λ (taken : Unit {0}). IsCopyingBy c.args.at c.args.task.now) c.args.lanes.now.setup.nodes c.args.lanes.now.lock.now c.args.at c.args.task.now c.hand_out.new.seat c.bring_file.new.seat turn) c.in-Done-2.is c.in_ok-bring_file-in-Work.ensures in
    steps_then c.args.lanes.now.setup.nodes c.args.lanes.now.lock.now c.args.at c.args.task.now (IsCopyReplied c.args.at) c.args.seat.now c.hand_out.new.seat c.bring_file.new.seat
    (steps_then c.args.lanes.now.setup.nodes c.args.lanes.now.lock.now c.args.at c.args.task.now (HasFileOut c.args.at c.args.task.now c.in-Work.file) c.args.seat.now c.loop.seat c.hand_out.new.seat c.loop.invariant turns) brought

pub loop-preserved : goal.loop-preserved
loop-preserved g c =
    let turns : TurnsJob c.args.lanes.now.setup.log (HasFileOut c.args.at c.args.task.now) c.args.lanes.now.setup.nodes c.args.lanes.now.lock.now c.args.at c.args.task.now c.loop.seat c.hand_out.new.seat (Work c.in-Work.file) =
    subst (λ (turn : Turn FileTask). TurnsJob c.args.lanes.now.setup.log (HasFileOut c.args.at c.args.task.now) c.args.lanes.now.setup.nodes c.args.lanes.now.lock.now c.args.at c.args.task.now c.loop.seat c.hand_out.new.seat turn) c.in-Work.is c.in_ok-hand_out.ensures in
    let brought : TurnsJob c.args.lanes.now.setup.log (λ (taken : Unit {0}). IsCopyingBy c.args.at c.args.task.now) c.args.lanes.now.setup.nodes c.args.lanes.now.lock.now c.args.at c.args.task.now c.hand_out.new.seat c.bring_file.new.seat (Work tt) =
    subst (λ (turn : Turn (Unit {0})). TurnsJob c.args.lanes.now.setup.log (λ (taken : Unit {0}). IsCopyingBy c.args.at c.args.task.now) c.args.lanes.now.setup.nodes c.args.lanes.now.lock.now c.args.at c.args.task.now c.hand_out.new.seat c.bring_file.new.seat turn) c.in-Work-2.is c.in_ok-bring_file-in-Work.ensures in
    steps_then c.args.lanes.now.setup.nodes c.args.lanes.now.lock.now c.args.at c.args.task.now (IsCopyingBy c.args.at c.args.task.now) c.args.seat.now c.hand_out.new.seat c.bring_file.new.seat
    (steps_then c.args.lanes.now.setup.nodes c.args.lanes.now.lock.now c.args.at c.args.task.now (HasFileOut c.args.at c.args.task.now c.in-Work.file) c.args.seat.now c.loop.seat c.hand_out.new.seat c.loop.invariant turns) brought
