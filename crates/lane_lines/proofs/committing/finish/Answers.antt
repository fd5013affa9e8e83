use Rattle.std.proofs.Common.{subst}
use Rattle.script_serving.specs.declared.script.LineCommand.TheVariants.{Commit}
use Rattle.cluster_state.specs.declared.turn.Turn.{Turn}
use Rattle.cluster_state.specs.declared.turn.Turn.TheVariants.{Work, Done, Busy}
use Rattle.cluster_site.specs.Turns.{NeverWaits, TurnsLine}
use Rattle.cluster_site.proofs.Sections.{takes_none, takes_then, takes_ends}
use Rattle.lane_lines.specs.Commits.{HasBegunCommit}
use Rattle.lane_lines.proofs.committing.finish.Goals as goal

pub loop-init : goal.loop-init
loop-init g c = takes_none c.args.lanes.now.lock.now (Commit c.args.task.now.node) c.args.at c.args.seat.now c.requires.seat (HasBegunCommit c.args.at c.args.task.now) c.requires.begun

pub unreachable-requires : goal.unreachable-requires
unreachable-requires g c =
    let turns : TurnsLine c.args.lanes.now.setup.log (λ (made : Unit {0}). HasBegunCommit c.args.at c.args.task.now) NeverWaits c.args.lanes.now.lock.now (Commit c.args.task.now.node) c.args.at c.loop.seat c.step.new.seat Busy =
    subst (λ (turn : Turn (Unit {0})). TurnsLine c.args.lanes.now.setup.log (λ (made : Unit {0}). HasBegunCommit c.args.at c.args.task.now) NeverWaits c.args.lanes.now.lock.now (Commit c.args.task.now.node) c.args.at c.loop.seat c.step.new.seat turn) c.in-Busy.is c.in_ok-step.ensures in
    turns.now

pub loop-preserved : goal.loop-preserved
loop-preserved g c =
    let turns : TurnsLine c.args.lanes.now.setup.log (λ (made : Unit {0}). HasBegunCommit c.args.at c.args.task.now) NeverWaits c.args.lanes.now.lock.now (Commit c.args.task.now.node) c.args.at c.loop.seat c.step.new.seat (Work tt) =
    subst (λ (turn : Turn (Unit {0})). TurnsLine c.args.lanes.now.setup.log (λ (made : Unit {0}). HasBegunCommit c.args.at c.args.task.now) NeverWaits c.args.lanes.now.lock.now (Commit c.args.task.now.node) c.args.at c.loop.seat c.step.new.seat turn) c.in-Work.is c.in_ok-step.ensures in
    takes_then c.args.lanes.now.lock.now (Commit c.args.task.now.node) c.args.at c.args.seat.now c.loop.seat c.step.new.seat c.loop.invariant (HasBegunCommit c.args.at c.args.task.now) turns

pub returns-in-Done : goal.returns-in-Done
returns-in-Done g c =
    let turns : TurnsLine c.args.lanes.now.setup.log (λ (made : Unit {0}). HasBegunCommit c.args.at c.args.task.now) NeverWaits c.args.lanes.now.lock.now (Commit c.args.task.now.node) c.args.at c.loop.seat c.step.new.seat Done =
    subst (λ (turn : Turn (Unit {0})). TurnsLine c.args.lanes.now.setup.log (λ (made : Unit {0}). HasBegunCommit c.args.at c.args.task.now) NeverWaits c.args.lanes.now.lock.now (Commit c.args.task.now.node) c.args.at c.loop.seat c.step.new.seat turn) c.in-Done.is c.in_ok-step.ensures in
    takes_ends c.args.lanes.now.lock.now (Commit c.args.task.now.node) c.args.at c.args.seat.now c.loop.seat c.step.new.seat c.loop.invariant turns
