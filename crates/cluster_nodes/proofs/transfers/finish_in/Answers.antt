use Rattle.std.proofs.Common.{◌∙◌}
use Rattle.cluster_nodes.specs.JobPlaces.{MayFinish}
use Rattle.cluster_nodes.proofs.Taking.{finished_in, may_of}
use Rattle.cluster_nodes.proofs.transfers.finish_in.Goals as goal

pub finish_job-finished-requires-clause-some : goal.finish_job-finished-requires-clause-some
finish_job-finished-requires-clause-some g c = (may_of (MayFinish g.D.Dir.cells) c.args.places.now.items c.take_primary-primary.new.places.items c.args.p.0 c.args.n.0 _ _ _ _ c.requires.stand c.take_primary-primary.ensures.places c.take_primary-primary.ensures.place c.take_replica-replica.ensures.place c.requires.may).some

pub finish_job-finished-requires-clause-complete : goal.finish_job-finished-requires-clause-complete
finish_job-finished-requires-clause-complete g c = (may_of (MayFinish g.D.Dir.cells) c.args.places.now.items c.take_primary-primary.new.places.items c.args.p.0 c.args.n.0 _ _ _ _ c.requires.stand c.take_primary-primary.ensures.places c.take_primary-primary.ensures.place c.take_replica-replica.ensures.place c.requires.may).complete

pub finish_job-finished-requires-clause-standing : goal.finish_job-finished-requires-clause-standing
finish_job-finished-requires-clause-standing g c = (may_of (MayFinish g.D.Dir.cells) c.args.places.now.items c.take_primary-primary.new.places.items c.args.p.0 c.args.n.0 _ _ _ _ c.requires.stand c.take_primary-primary.ensures.places c.take_primary-primary.ensures.place c.take_replica-replica.ensures.place c.requires.may).standing

pub finish_job-finished-requires-clause-out : goal.finish_job-finished-requires-clause-out
finish_job-finished-requires-clause-out g c = (may_of (MayFinish g.D.Dir.cells) c.args.places.now.items c.take_primary-primary.new.places.items c.args.p.0 c.args.n.0 _ _ _ _ c.requires.stand c.take_primary-primary.ensures.places c.take_primary-primary.ensures.place c.take_replica-replica.ensures.place c.requires.may).out

pub returns-clause-went : goal.returns-clause-went
returns-clause-went g c = finished_in g.D.Dir.cells c.args.places.now.items c.take_primary-primary.new.places.items c.take_replica-replica.new.places.items c.put_both.new.places.items c.args.p.0 c.args.n.0 _ _ _ _ _ _
    c.requires.stand c.take_primary-primary.ensures.count c.take_primary-primary.ensures.places c.take_replica-replica.ensures.count c.take_replica-replica.ensures.places c.put_both.ensures.count c.put_both.ensures.places
    c.take_primary-primary.ensures.place c.take_replica-replica.ensures.place c.finish_job-finished.result c.finish_job-finished.ensures

pub returns-clause-count : goal.returns-clause-count
returns-clause-count g c = c.put_both.ensures.count ∙ (c.take_replica-replica.ensures.count ∙ c.take_primary-primary.ensures.count)
