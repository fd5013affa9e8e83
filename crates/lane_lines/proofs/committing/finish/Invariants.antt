use Rattle.script_serving.specs.declared.script.LineCommand.TheVariants.{Commit}
use Rattle.cluster_site.specs.Turns.{TakesLineTo}
use Rattle.lane_lines.specs.Commits.{HasBegunCommit}
use Rattle.lane_lines.proofs.committing.finish.Given as goal

abbrev pub invariant-loop : goal.invariant-loop
invariant-loop g l = TakesLineTo l.lanes.setup.log (HasBegunCommit l.fn.at l.task) l.lanes.lock.now (Commit l.task.node) l.fn.at l.initial.seat l.seat
