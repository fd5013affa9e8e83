use Rattle.std.proofs.Common.{refl}
use Rattle.cluster_state.proofs.Frames.{slot_at, there_at}
use Rattle.cluster_state.proofs.NodeDirs.{node_dir}
use Rattle.cluster_recovery.proofs.NodeDirs.{down_finds}
use Rattle.cluster_recovery.proofs.dirs.into_dir.Goals as goal

pub take-node-requires-clause-slot : goal.take-node-requires-clause-slot
take-node-requires-clause-slot g c =
    slot_at g.D.Dir.cells c.args.state _ c.state.inside.ledger.nodes c.args.n.0 c.state.inside.ledger.log c.state.inside.places.items c.state.view_is c.requires.running (λ e. (c.state.invariant e).0) c.requires.node

pub take-node-requires-clause-there : goal.take-node-requires-clause-there
take-node-requires-clause-there g c =
    there_at g.D.Dir.cells c.args.state _ c.state.inside.ledger.nodes c.args.n.0 c.state.inside.ledger.log c.state.inside.places.items c.state.view_is c.requires.running (λ e. (c.state.invariant e).0) c.requires.node

pub returns-clause-is : goal.returns-clause-is
returns-clause-is g c =
    node_dir g.D.Dir.cells g.D.FaultDir.names c.args.state _ c.state.inside.ledger.nodes c.args.n.0 c.state.inside.ledger.log _ c.state.inside.places.items c.take-node.result c.dir_in.result c.state.view_is c.requires.running
    c.state.invariant refl c.take-node.ensures.place c.dir_in.ensures

pub returns-clause-down : goal.returns-clause-down
returns-clause-down g c = λ down.
    down_finds g.D.Dir.cells g.D.FaultDir.names c.args.state c.args.n.0 c.dir_in.result c.requires.node
    (node_dir g.D.Dir.cells g.D.FaultDir.names c.args.state _ c.state.inside.ledger.nodes c.args.n.0 c.state.inside.ledger.log _ c.state.inside.places.items c.take-node.result c.dir_in.result c.state.view_is c.requires.running
    c.state.invariant refl c.take-node.ensures.place c.dir_in.ensures) down
