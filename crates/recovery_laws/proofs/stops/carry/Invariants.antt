use Rattle.replica_node.specs.Replica.{AreStanding}
use Rattle.recovery_laws.specs.Stops.{IsStillInFlight}
use Rattle.recovery_laws.proofs.stops.carry.Given as goal

abbrev pub invariant-loop : goal.invariant-loop
invariant-loop g l = AreStanding g.D.Dir.cells l.replica × IsStillInFlight l.initial.replica.commits l.replica.commits
