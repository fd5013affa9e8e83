use Rattle.std.proofs.Common.{refl}
use Rattle.cluster_recovery.proofs.Dropping.{sent_next}
use Rattle.cluster_recovery.proofs.falls.drop_sent.Goals as goal

pub loop-sent-preserved : goal.loop-sent-preserved
loop-sent-preserved g c = sent_next g.D.Dir.cells c.args.n c.args.left.now c.loop-sent.sent-index _ _ c.args.replica.now c.loop-sent.replica c.drop_one.new.replica c.loop-sent-test.true refl c.loop-sent.invariant c.drop_one.ensures
