use Rattle.cluster_recovery.proofs.Dropping.{no_place, one_place}
use Rattle.cluster_recovery.proofs.falls.drop_all.Goals as goal

pub loop-k-init : goal.loop-k-init
loop-k-init g c = no_place g.D.Dir.cells c.args.rows.now c.args.places.now.items

pub loop-k-preserved : goal.loop-k-preserved
loop-k-preserved g c = one_place g.D.Dir.cells c.args.rows.now c.args.places.now.items c.loop-k.places.items c.drop_at.new.places.items c.loop-k.k c.loop-k.invariant c.drop_at.ensures.count c.drop_at.ensures.loses c.drop_at.ensures.others
