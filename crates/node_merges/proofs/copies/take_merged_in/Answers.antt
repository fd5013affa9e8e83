use Rattle.std.proofs.Common.{◌≡◌, Some}
use Rattle.node_merges.specs.MergeChanges.{TakesMerged, LosesMerged}
use Rattle.node_merges.proofs.MergeSteps.{replica_went}
use Rattle.node_merges.proofs.copies.take_merged_in.Goals as goal

pub take_merged-taken-requires-clause-may : goal.take_merged-taken-requires-clause-may
take_merged-taken-requires-clause-may g c = c.requires.may.may _ _ c.take_replica-replica.ensures.place

pub returns : goal.returns
returns g c = replica_went (λ done. TakesMerged g.D.Dir.cells c.args.job c.args.part) (LosesMerged g.D.Dir.cells (λ source. source c.args.part.name ≡ Some c.args.part.bytes) c.args.job) c.take_merged-taken.result c.args.places.now.items c.take_replica-replica.new.places.items c.put.new.places.items c.args.n.0 _ _ _ c.requires.may.slot
    c.take_replica-replica.ensures.count c.take_replica-replica.ensures.places c.put.ensures.count c.put.ensures.places c.take_replica-replica.ensures.place c.take_merged-taken.ensures
