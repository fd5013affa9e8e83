use Rattle.std.proofs.Common.{◌∙◌}
use Rattle.cluster_nodes.specs.JobPlaces.{MayStop}
use Rattle.cluster_nodes.proofs.Taking.{may_of, stopped_in}
use Rattle.cluster_nodes.proofs.transfers.stop_job_in.Goals as goal

pub stop_for-stopped-requires-clause-some : goal.stop_for-stopped-requires-clause-some
stop_for-stopped-requires-clause-some g c = (may_of MayStop c.args.places.now.items c.take_primary-primary.new.places.items c.args.p.0 c.args.n.0 _ _ _ _ c.requires.stand c.take_primary-primary.ensures.places c.take_primary-primary.ensures.place c.take_replica-replica.ensures.place c.requires.may).some

pub stop_for-stopped-requires-clause-out : goal.stop_for-stopped-requires-clause-out
stop_for-stopped-requires-clause-out g c = (may_of MayStop c.args.places.now.items c.take_primary-primary.new.places.items c.args.p.0 c.args.n.0 _ _ _ _ c.requires.stand c.take_primary-primary.ensures.places c.take_primary-primary.ensures.place c.take_replica-replica.ensures.place c.requires.may).out

pub returns-clause-stopped : goal.returns-clause-stopped
returns-clause-stopped g c = stopped_in g.D.Dir.cells c.args.places.now.items c.take_primary-primary.new.places.items c.take_replica-replica.new.places.items c.put_both.new.places.items c.args.p.0 c.args.n.0 _ _ _ _ _ _
    c.requires.stand c.take_primary-primary.ensures.count c.take_primary-primary.ensures.places c.take_replica-replica.ensures.count c.take_replica-replica.ensures.places c.put_both.ensures.count c.put_both.ensures.places
    c.take_primary-primary.ensures.place c.take_replica-replica.ensures.place c.stop_for-stopped.result c.stop_for-stopped.ensures

pub returns-clause-count : goal.returns-clause-count
returns-clause-count g c = c.put_both.ensures.count ∙ (c.take_replica-replica.ensures.count ∙ c.take_primary-primary.ensures.count)
