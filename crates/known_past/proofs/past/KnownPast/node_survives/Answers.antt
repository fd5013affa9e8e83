use Rattle.std.proofs.Common.{reverse}
use Rattle.known_past.proofs.KnownLaws.{node_lives}
use Rattle.known_past.proofs.past.KnownPast.node_survives.Goals as goal

pub returns : goal.returns
returns c =
    node_lives (reverse c.args.entries.now) c.args.at c.args.n.0 c.node-node.result.life.crashed c.start_count-before.result c.node-node.ensures.life.crashed c.start_count-before.ensures
