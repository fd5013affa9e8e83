use Rattle.script_serving.specs.declared.script.LineCommand.TheVariants.{Settle}
use Rattle.cluster_site.specs.Turns.{TakesLineTo}
use Rattle.lane_copies.proofs.Steps.{IsSettlingYet}
use Rattle.lane_copies.proofs.settling.settle_on.Given as goal

abbrev pub invariant-loop : goal.invariant-loop
invariant-loop g l = TakesLineTo l.lanes.setup.log (IsSettlingYet l.lanes.setup.nodes l.fn.at l.left) l.lanes.lock.now Settle l.fn.at l.initial.seat l.seat
