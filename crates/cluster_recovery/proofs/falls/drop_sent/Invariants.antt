use Rattle.cluster_recovery.proofs.Dropping.{SentEnd}
use Rattle.cluster_recovery.proofs.falls.drop_sent.Given as goal

abbrev pub invariant-loop-sent : goal.invariant-loop-sent
invariant-loop-sent g l = SentEnd g.D.Dir.cells l.n l.left l.sent-index l.initial.replica l.replica
