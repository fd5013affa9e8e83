use Rattle.cluster_nodes.proofs.PromotedNodes.{only_memory}
use Rattle.cluster_nodes.proofs.promoting.opened.Goals as goal

pub memory-requires : goal.memory-requires
memory-requires c = only_memory c.open_generation.result c.args.infos.now c.args.generation c.args.forced c.in-Err.fault c.in-Err.is c.requires.newer c.requires.low c.open_generation.ensures.not_newer c.open_generation.ensures.force_high
