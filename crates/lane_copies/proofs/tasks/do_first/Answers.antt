use Rattle.std.proofs.Common.{Option, None, Some, subst, sym}
use Rattle.nrt_base.specs.declared.numbers.At.{At}
use Rattle.merge_tasks.specs.declared.tasks.Task.{Task}
use Rattle.lane_copies.specs.Taken.{IsTakerAt, WorksOn, TakesOn}
use Rattle.lane_copies.proofs.Works.{works_then}
use Rattle.lane_copies.proofs.tasks.do_first.Goals as goal

pub returns-in-None : goal.returns-in-None
returns-in-None g c = subst (λ (o : Option Task). TakesOn c.args.lanes.now.setup.log c.args.lanes.now.lock.now c.args.at.lane.0 c.args.by c.args.seat.now c.take.new.seat o) c.in-None.is c.in_ok-take.ensures

pub do_task-requires-clause-seat : goal.do_task-requires-clause-seat
do_task-requires-clause-seat g c =
    let takes : TakesOn c.args.lanes.now.setup.log c.args.lanes.now.lock.now c.args.at.lane.0 c.args.by c.args.seat.now c.take.new.seat (Some c.in-Some.task) =
    subst (λ (o : Option Task). TakesOn c.args.lanes.now.setup.log c.args.lanes.now.lock.now c.args.at.lane.0 c.args.by c.args.seat.now c.take.new.seat o) c.in-Some.is c.in_ok-take.ensures in
    takes.0.seat

pub do_task-requires-clause-by : goal.do_task-requires-clause-by
do_task-requires-clause-by g c =
    let takes : TakesOn c.args.lanes.now.setup.log c.args.lanes.now.lock.now c.args.at.lane.0 c.args.by c.args.seat.now c.take.new.seat (Some c.in-Some.task) =
    subst (λ (o : Option Task). TakesOn c.args.lanes.now.setup.log c.args.lanes.now.lock.now c.args.at.lane.0 c.args.by c.args.seat.now c.take.new.seat o) c.in-Some.is c.in_ok-take.ensures in
    subst (IsTakerAt c.args.at) (sym takes.2) c.requires.by

pub do_task-requires-clause-task : goal.do_task-requires-clause-task
do_task-requires-clause-task g c =
    let takes : TakesOn c.args.lanes.now.setup.log c.args.lanes.now.lock.now c.args.at.lane.0 c.args.by c.args.seat.now c.take.new.seat (Some c.in-Some.task) =
    subst (λ (o : Option Task). TakesOn c.args.lanes.now.setup.log c.args.lanes.now.lock.now c.args.at.lane.0 c.args.by c.args.seat.now c.take.new.seat o) c.in-Some.is c.in_ok-take.ensures in
    takes.1

pub returns-in_ok-do_task-in-Some : goal.returns-in_ok-do_task-in-Some
returns-in_ok-do_task-in-Some g c =
    let takes : TakesOn c.args.lanes.now.setup.log c.args.lanes.now.lock.now c.args.at.lane.0 c.args.by c.args.seat.now c.take.new.seat (Some c.in-Some.task) =
    subst (λ (o : Option Task). TakesOn c.args.lanes.now.setup.log c.args.lanes.now.lock.now c.args.at.lane.0 c.args.by c.args.seat.now c.take.new.seat o) c.in-Some.is c.in_ok-take.ensures in
    works_then c.args.lanes.now.lock.now c.args.at.lane.0 c.args.by c.args.seat.now c.take.new.seat c.do_task.new.seat takes.0
    (subst (λ (by : Option At). WorksOn c.args.lanes.now.setup.log c.args.lanes.now.lock.now c.args.at.lane.0 by c.take.new.seat c.do_task.new.seat) takes.2 c.in_ok-do_task-in-Some.ensures)
