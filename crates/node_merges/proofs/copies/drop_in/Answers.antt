use Rattle.node_merges.specs.MergeChanges.{DropsMerged}
use Rattle.node_merges.proofs.MergeSteps.{replica_moved}
use Rattle.node_merges.proofs.copies.drop_in.Goals as goal

pub drop_copy-requires : goal.drop_copy-requires
drop_copy-requires g c = c.requires.may _ _ c.take_replica-replica.ensures.place

pub returns : goal.returns
returns g c = replica_moved (DropsMerged g.D.Dir.cells c.args.job) c.args.places.now.items c.take_replica-replica.new.places.items c.put.new.places.items c.args.n.0 _ _ _ c.requires.slot
    c.take_replica-replica.ensures.count c.take_replica-replica.ensures.places c.put.ensures.count c.put.ensures.places c.take_replica-replica.ensures.place c.drop_copy.ensures
