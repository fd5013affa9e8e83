use Rattle.std.proofs.Common.{Some, subst}
use Rattle.script_serving.specs.declared.script.LineCommand.TheVariants.{Drain}
use Rattle.cluster_state.specs.declared.turn.Turn.{Turn}
use Rattle.cluster_state.specs.declared.turn.Turn.TheVariants.{Work, Done, Busy}
use Rattle.cluster_site.specs.Turns.{IsUnbegunIn, NeverWaits, TurnsLine}
use Rattle.cluster_site.proofs.Sections.{takes_first, takes_then, takes_ends}
use Rattle.lane_copies.proofs.Drains.{works_line}
use Rattle.lane_copies.proofs.draining.drain.Goals as goal

pub loop-init : goal.loop-init
loop-init g c = takes_first c.args.lanes.now.lock.now (Drain c.args.most) c.args.at c.args.seat.now c.requires.seat c.requires.fresh

pub unreachable-requires : goal.unreachable-requires
unreachable-requires g c =
    let turns : TurnsLine {W = Unit {0}} c.args.lanes.now.setup.log (λ w. NeverWaits) (IsUnbegunIn c.args.at) c.args.lanes.now.lock.now (Drain c.args.most) c.args.at c.loop.seat c.end.new.seat (Work (tt {0})) =
    subst (λ (turn : Turn (Unit {0})). TurnsLine {W = Unit {0}} c.args.lanes.now.setup.log (λ w. NeverWaits) (IsUnbegunIn c.args.at) c.args.lanes.now.lock.now (Drain c.args.most) c.args.at c.loop.seat c.end.new.seat turn) c.in-Work.is c.in_ok-end.ensures in
    turns.now

pub returns-in-Done : goal.returns-in-Done
returns-in-Done g c =
    let turns : TurnsLine {W = Unit {0}} c.args.lanes.now.setup.log (λ w. NeverWaits) (IsUnbegunIn c.args.at) c.args.lanes.now.lock.now (Drain c.args.most) c.args.at c.loop.seat c.end.new.seat Done =
    subst (λ (turn : Turn (Unit {0})). TurnsLine {W = Unit {0}} c.args.lanes.now.setup.log (λ w. NeverWaits) (IsUnbegunIn c.args.at) c.args.lanes.now.lock.now (Drain c.args.most) c.args.at c.loop.seat c.end.new.seat turn) c.in-Done.is c.in_ok-end.ensures in
    takes_ends c.args.lanes.now.lock.now (Drain c.args.most) c.args.at c.args.seat.now c.loop.seat c.end.new.seat c.loop.invariant turns

pub help-requires : goal.help-requires
help-requires g c =
    let turns : TurnsLine {W = Unit {0}} c.args.lanes.now.setup.log (λ w. NeverWaits) (IsUnbegunIn c.args.at) c.args.lanes.now.lock.now (Drain c.args.most) c.args.at c.loop.seat c.end.new.seat Busy =
    subst (λ (turn : Turn (Unit {0})). TurnsLine {W = Unit {0}} c.args.lanes.now.setup.log (λ w. NeverWaits) (IsUnbegunIn c.args.at) c.args.lanes.now.lock.now (Drain c.args.most) c.args.at c.loop.seat c.end.new.seat turn) c.in-Busy.is c.in_ok-end.ensures in
    turns.taken.seat

pub loop-preserved : goal.loop-preserved
loop-preserved g c =
    let turns : TurnsLine {W = Unit {0}} c.args.lanes.now.setup.log (λ w. NeverWaits) (IsUnbegunIn c.args.at) c.args.lanes.now.lock.now (Drain c.args.most) c.args.at c.loop.seat c.end.new.seat Busy =
    subst (λ (turn : Turn (Unit {0})). TurnsLine {W = Unit {0}} c.args.lanes.now.setup.log (λ w. NeverWaits) (IsUnbegunIn c.args.at) c.args.lanes.now.lock.now (Drain c.args.most) c.args.at c.loop.seat c.end.new.seat turn) c.in-Busy.is c.in_ok-end.ensures in
    takes_then c.args.lanes.now.lock.now (Drain c.args.most) c.args.at c.args.seat.now c.end.new.seat c.help.new.seat
    (takes_then c.args.lanes.now.lock.now (Drain c.args.most) c.args.at c.args.seat.now c.loop.seat c.end.new.seat c.loop.invariant (IsUnbegunIn c.args.at) turns)
    (IsUnbegunIn c.args.at) (works_line c.args.lanes.now.lock.now (Drain c.args.most) c.args.at (Some c.args.at) c.end.new.seat c.help.new.seat turns.now c.in_ok-help-in-Busy.ensures)
