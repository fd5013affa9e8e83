use Rattle.std.proofs.Common.{◌∙◌}
use Rattle.cluster_nodes.specs.JobPlaces.{MayStop}
use Rattle.cluster_nodes.proofs.Taking.{may_of, read_in}
use Rattle.cluster_nodes.proofs.transfers.read_for_in.Goals as goal

pub read_for-read-requires-clause-some : goal.read_for-read-requires-clause-some
read_for-read-requires-clause-some g c = (may_of MayStop c.args.places.now.items c.take_primary-primary.new.places.items c.args.p.0 c.args.n.0 _ _ _ _ c.requires.stop.stand c.take_primary-primary.ensures.places c.take_primary-primary.ensures.place c.take_replica-replica.ensures.place c.requires.stop.may).some

pub read_for-read-requires-clause-out : goal.read_for-read-requires-clause-out
read_for-read-requires-clause-out g c = (may_of MayStop c.args.places.now.items c.take_primary-primary.new.places.items c.args.p.0 c.args.n.0 _ _ _ _ c.requires.stop.stand c.take_primary-primary.ensures.places c.take_primary-primary.ensures.place c.take_replica-replica.ensures.place c.requires.stop.may).out

pub read_for-read-requires-clause-named : goal.read_for-read-requires-clause-named
read_for-read-requires-clause-named g c = c.requires.read.out _ _ c.take_primary-primary.ensures.place

pub returns-clause-went : goal.returns-clause-went
returns-clause-went g c = read_in g.D.Dir.cells c.args.places.now.items c.take_primary-primary.new.places.items c.take_replica-replica.new.places.items c.put_both.new.places.items c.args.p.0 c.args.n.0 _ _ _ _ _ _
    c.requires.stop.stand c.take_primary-primary.ensures.count c.take_primary-primary.ensures.places c.take_replica-replica.ensures.count c.take_replica-replica.ensures.places c.put_both.ensures.count c.put_both.ensures.places
    c.take_primary-primary.ensures.place c.take_replica-replica.ensures.place c.args.name.now c.read_for-read.result c.read_for-read.ensures

pub returns-clause-count : goal.returns-clause-count
returns-clause-count g c = c.put_both.ensures.count ∙ (c.take_replica-replica.ensures.count ∙ c.take_primary-primary.ensures.count)
