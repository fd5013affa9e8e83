use Rattle.cluster_recovery.proofs.Dropping.{row_next}
use Rattle.cluster_recovery.proofs.falls.drop_copies.Goals as goal

pub loop-row-preserved : goal.loop-row-preserved
loop-row-preserved g c = row_next g.D.Dir.cells c.args.n c.args.rows.now c.loop-row.row-index c.row-item.result c.args.replica.now c.loop-row.replica c.drop_spread.new.replica c.loop-row-test.true c.row-item.is c.loop-row.invariant c.drop_spread.ensures
