use Rattle.cluster_recovery.proofs.Dropping.{dropped}
use Rattle.cluster_recovery.proofs.falls.drop_one.Goals as goal

pub returns : goal.returns
returns g c = dropped g.D.Dir.cells c.args.n c.args.sent.now c.args.replica.now c.drop_copy.new.replica c.version.ensures.whole c.drop_copy.ensures
