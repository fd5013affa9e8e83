use Rattle.std.specs.Prelude.{⊤}
use Rattle.node_merges.specs.MergeChanges.{SettlesMerged, LosesMerged}
use Rattle.node_merges.proofs.MergeSteps.{replica_went}
use Rattle.node_merges.proofs.copies.settle_in.Goals as goal

pub settle-settled-requires : goal.settle-settled-requires
settle-settled-requires g c = c.requires.may _ _ c.take_replica-replica.ensures.place

pub returns : goal.returns
returns g c = replica_went (λ done. SettlesMerged g.D.Dir.cells c.args.job) (LosesMerged g.D.Dir.cells (λ source. ⊤) c.args.job) c.settle-settled.result c.args.places.now.items c.take_replica-replica.new.places.items c.put.new.places.items c.args.n.0 _ _ _ c.requires.slot
    c.take_replica-replica.ensures.count c.take_replica-replica.ensures.places c.put.ensures.count c.put.ensures.places c.take_replica-replica.ensures.place c.settle-settled.ensures
