use Rattle.nrt_commands.proofs.NodeTextLaws.{node_of_run, node_image}
use Rattle.nrt_commands.proofs.nodes.run_image.Goals as goal

pub into_dir-dir-requires-clause-node : goal.into_dir-dir-requires-clause-node
into_dir-dir-requires-clause-node g c = node_of_run c.args.script.now c.in_ok-cluster.cluster c.args.n.0 c.in_ok-cluster.ensures.serves c.requires.node

pub returns : goal.returns
returns g c =
    node_image c.args.script.now c.in_ok-cluster.cluster c.args.n.0 c.in_ok-cluster.ensures.running c.in_ok-cluster.ensures.legal c.in_ok-cluster.ensures.serves c.in_ok-cluster.ensures.told
    c.requires.node c.into_dir-dir.result c.in_ok-image.image.items c.into_dir-dir.ensures.is c.into_dir-dir.ensures.down c.in_ok-image.ensures.image
