use Rattle.cluster_nodes.proofs.EndedJobs.{StopsUpTo}
use Rattle.cluster_nodes.proofs.ends.stop_jobs.Given as goal

abbrev pub invariant-loop-k : goal.invariant-loop-k
invariant-loop-k g l = StopsUpTo g.D.Dir.cells l.initial.places.items l.places.items l.k
