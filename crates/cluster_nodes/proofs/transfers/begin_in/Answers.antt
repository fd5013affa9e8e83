use Rattle.std.proofs.Common.{◌∙◌}
use Rattle.cluster_nodes.specs.JobPlaces.{MayBegin}
use Rattle.cluster_nodes.proofs.Taking.{begun_in, may_of}
use Rattle.cluster_nodes.proofs.transfers.begin_in.Goals as goal

pub begin_job-begun-requires-clause-behind : goal.begin_job-begun-requires-clause-behind
begin_job-begun-requires-clause-behind g c = (may_of MayBegin c.args.places.now.items c.take_primary-primary.new.places.items c.args.p.0 c.args.n.0 _ _ _ _ c.requires.stand c.take_primary-primary.ensures.places c.take_primary-primary.ensures.place c.take_replica-replica.ensures.place c.requires.may).behind

pub begin_job-begun-requires-clause-seen : goal.begin_job-begun-requires-clause-seen
begin_job-begun-requires-clause-seen g c = (may_of MayBegin c.args.places.now.items c.take_primary-primary.new.places.items c.args.p.0 c.args.n.0 _ _ _ _ c.requires.stand c.take_primary-primary.ensures.places c.take_primary-primary.ensures.place c.take_replica-replica.ensures.place c.requires.may).seen

pub begin_job-begun-requires-clause-out : goal.begin_job-begun-requires-clause-out
begin_job-begun-requires-clause-out g c = (may_of MayBegin c.args.places.now.items c.take_primary-primary.new.places.items c.args.p.0 c.args.n.0 _ _ _ _ c.requires.stand c.take_primary-primary.ensures.places c.take_primary-primary.ensures.place c.take_replica-replica.ensures.place c.requires.may).out

pub returns-clause-went : goal.returns-clause-went
returns-clause-went g c = begun_in g.D.Dir.cells c.args.places.now.items c.take_primary-primary.new.places.items c.take_replica-replica.new.places.items c.put_both.new.places.items c.args.p.0 c.args.n.0 _ _ _ _ _ _
    c.requires.stand c.take_primary-primary.ensures.count c.take_primary-primary.ensures.places c.take_replica-replica.ensures.count c.take_replica-replica.ensures.places c.put_both.ensures.count c.put_both.ensures.places
    c.take_primary-primary.ensures.place c.take_replica-replica.ensures.place c.begin_job-begun.result c.begin_job-begun.ensures

pub returns-clause-count : goal.returns-clause-count
returns-clause-count g c = c.put_both.ensures.count ∙ (c.take_replica-replica.ensures.count ∙ c.take_primary-primary.ensures.count)
