use Rattle.script_serving.specs.declared.script.LineCommand.TheVariants.{Drain}
use Rattle.cluster_site.specs.Turns.{TakesLineTo, IsUnbegunIn}
use Rattle.lane_copies.proofs.draining.drain.Given as goal

abbrev pub invariant-loop : goal.invariant-loop
invariant-loop g l = TakesLineTo l.lanes.setup.log (IsUnbegunIn l.fn.at) l.lanes.lock.now (Drain l.fn.most) l.fn.at l.initial.seat l.seat
