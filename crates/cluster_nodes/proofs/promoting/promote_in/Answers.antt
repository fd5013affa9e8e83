use Rattle.cluster_nodes.proofs.Taking.{moved_one}
use Rattle.cluster_nodes.proofs.promoting.promote_in.Goals as goal

pub take_replica-replica-requires-clause-slot : goal.take_replica-replica-requires-clause-slot
take_replica-replica-requires-clause-slot g c = c.requires.slot

pub take_replica-replica-requires-clause-there : goal.take_replica-replica-requires-clause-there
take_replica-replica-requires-clause-there g c = c.requires.replica

pub promoted-requires : goal.promoted-requires
promoted-requires g c = c.requires.can _ _ c.take_replica-replica.ensures.place

pub returns-in-Ok : goal.returns-in-Ok
returns-in-Ok g c = record {
  at = record { slot = c.requires.slot; parts = c.take_replica-replica.result.0; held = c.take_replica-replica.result.1; there = c.take_replica-replica.ensures.place };
  primary = c.in-Ok.primary;
  moves = moved_one _ _ _ c.args.n.0 _ c.take_replica-replica.ensures.count c.take_replica-replica.ensures.places c.put.ensures.count c.put.ensures.places;
  becomes = c.in-Ok.ensures;
}
