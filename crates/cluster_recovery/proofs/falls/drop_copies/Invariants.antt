use Rattle.cluster_recovery.proofs.Dropping.{RowsEnd}
use Rattle.cluster_recovery.proofs.falls.drop_copies.Given as goal

abbrev pub invariant-loop-row : goal.invariant-loop-row
invariant-loop-row g l = RowsEnd g.D.Dir.cells l.n l.rows l.row-index l.initial.replica l.replica
