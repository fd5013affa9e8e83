use Rattle.lane_threads.specs.Seats.{log_seen}
use Rattle.lane_copies.proofs.Claims.{task_builds}
use Rattle.lane_copies.proofs.tasks.do_task.Goals as goal

pub build-requires-clause-work : goal.build-requires-clause-work
build-requires-clause-work g c = task_builds c.args.task.now _ (log_seen c.args.seat.now) c.in-Merge.is c.requires.task

pub copy_over-requires-clause-node : goal.copy_over-requires-clause-node
copy_over-requires-clause-node g c = c.is_node.ensures.0 c.if-not-is_node.false
