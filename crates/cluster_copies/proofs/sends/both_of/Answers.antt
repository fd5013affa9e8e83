use Rattle.std.proofs.Common.{refl}
use Rattle.cluster_copies.proofs.SendPaths.{primary_slot, primary_there, replica_slot, replica_there, both_taken}
use Rattle.cluster_copies.proofs.sends.both_of.Goals as goal

pub take_primary-primary-requires-clause-slot : goal.take_primary-primary-requires-clause-slot
take_primary-primary-requires-clause-slot g c = primary_slot g.D.Dir.cells c.args.cluster _ c.cluster.inside.ledger.nodes c.cluster.inside.ledger.log c.cluster.inside.places.items _ c.cluster.view_is c.requires.running c.cluster.invariant c.args.p c.args.n c.requires.source c.requires.node c.requires.primary c.requires.replica

pub take_primary-primary-requires-clause-there : goal.take_primary-primary-requires-clause-there
take_primary-primary-requires-clause-there g c = primary_there g.D.Dir.cells c.args.cluster _ c.cluster.inside.ledger.nodes c.cluster.inside.ledger.log c.cluster.inside.places.items _ c.cluster.view_is c.requires.running c.cluster.invariant c.args.p c.args.n c.requires.source c.requires.node c.requires.primary c.requires.replica

pub take-node-requires-clause-slot : goal.take-node-requires-clause-slot
take-node-requires-clause-slot g c = replica_slot g.D.Dir.cells c.args.cluster _ c.cluster.inside.ledger.nodes c.cluster.inside.ledger.log c.cluster.inside.places.items _ c.cluster.view_is c.requires.running c.cluster.invariant c.args.p c.args.n c.requires.source c.requires.node c.requires.primary c.requires.replica _ c.take_primary-primary.ensures.count c.take_primary-primary.ensures.places

pub take-node-requires-clause-there : goal.take-node-requires-clause-there
take-node-requires-clause-there g c = replica_there g.D.Dir.cells c.args.cluster _ c.cluster.inside.ledger.nodes c.cluster.inside.ledger.log c.cluster.inside.places.items _ c.cluster.view_is c.requires.running c.cluster.invariant c.args.p c.args.n c.requires.source c.requires.node c.requires.primary c.requires.replica _ c.take_primary-primary.ensures.count c.take_primary-primary.ensures.places

pub returns : goal.returns
returns g c = both_taken g.D.Dir.cells c.args.cluster _ c.cluster.inside.ledger.nodes c.cluster.inside.ledger.log c.cluster.inside.places.items _ c.cluster.view_is c.requires.running c.cluster.invariant c.args.p c.args.n c.requires.source c.requires.node c.requires.primary c.requires.replica _ c.take_primary-primary.ensures.count c.take_primary-primary.ensures.places g.D.FaultDir.names refl _ _ c.take-node.result c.dir_in.result c.take_primary-primary.ensures.place c.take-node.ensures.place c.dir_in.ensures
