use Rattle.cluster_recovery.proofs.Dropping.{LosesUpTo}
use Rattle.cluster_recovery.proofs.falls.drop_all.Given as goal

abbrev pub invariant-loop-k : goal.invariant-loop-k
invariant-loop-k g l = LosesUpTo g.D.Dir.cells l.rows l.initial.places.items l.places.items l.k
