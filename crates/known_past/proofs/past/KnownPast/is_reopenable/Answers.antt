use Rattle.std.proofs.Common.{reverse}
use Rattle.known_past.proofs.ReopenLaws.{reopens_at_base}
use Rattle.known_past.proofs.past.KnownPast.is_reopenable.Goals as goal

pub returns-then-node-v : goal.returns-then-node-v
returns-then-node-v c =
    reopens_at_base c.args.n.0 c.args.v.0 c.node.result.commits.base (reverse c.args.entries.now) c.node.ensures.commits.base c.if-node-v.true
