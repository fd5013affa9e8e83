use Rattle.script_serving.specs.declared.script.LineCommand.TheVariants.{Publish}
use Rattle.cluster_site.specs.Turns.{TakesLineTo, IsUnbegunIn}
use Rattle.lane_lines.proofs.publishing.publish.Given as goal

abbrev pub invariant-loop : goal.invariant-loop
invariant-loop g l = TakesLineTo l.lanes.setup.log (IsUnbegunIn l.fn.at) l.lanes.lock.now Publish l.fn.at l.initial.seat l.seat
