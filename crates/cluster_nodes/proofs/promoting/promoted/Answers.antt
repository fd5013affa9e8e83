use Rattle.std.proofs.Common.{◌∙◌}
use Rattle.cluster_nodes.proofs.PromotedNodes.{newer_apart, above_apart, held_next, undrawn_apart, numbered_apart, becomes}
use Rattle.cluster_nodes.proofs.promoting.promoted.Goals as goal

pub opened-requires-clause-newer : goal.opened-requires-clause-newer
opened-requires-clause-newer g c = newer_apart g.D.Dir.cells c.args.generation c.args.forced c.args.replica c.take_apart-parts.result c.requires c.take_apart-parts.ensures.same

pub opened-requires-clause-above : goal.opened-requires-clause-above
opened-requires-clause-above g c = above_apart g.D.Dir.cells c.args.generation c.args.forced c.args.replica c.take_apart-parts.result c.requires c.take_apart-parts.ensures.same

pub opened-requires-clause-low : goal.opened-requires-clause-low
opened-requires-clause-low g c = c.requires.low

pub primary_of-requires-clause-standing : goal.primary_of-requires-clause-standing
primary_of-requires-clause-standing g c = c.take_apart-parts.ensures.standing c.requires.standing

pub primary_of-requires-clause-held : goal.primary_of-requires-clause-held
primary_of-requires-clause-held g c = held_next g.D.Dir.cells c.args.generation c.args.forced c.args.replica c.take_apart-parts.result c.requires c.take_apart-parts.ensures.same c.in-Ok.infos c.in-Ok.ensures
    c.take_apart-parts.ensures.spelled c.take_apart-parts.ensures.names c.take_apart-parts.ensures.stands

pub primary_of-requires-clause-undrawn : goal.primary_of-requires-clause-undrawn
primary_of-requires-clause-undrawn g c = undrawn_apart g.D.Dir.cells c.args.generation c.args.forced c.args.replica c.take_apart-parts.result c.requires c.take_apart-parts.ensures.same c.in-Ok.infos c.in-Ok.ensures
    c.take_apart-parts.ensures.fewer

pub primary_of-requires-clause-numbered : goal.primary_of-requires-clause-numbered
primary_of-requires-clause-numbered g c = numbered_apart g.D.Dir.cells c.args.generation c.args.forced c.args.replica c.take_apart-parts.result c.requires c.take_apart-parts.ensures.same c.in-Ok.infos c.in-Ok.ensures

pub returns-in-Ok : goal.returns-in-Ok
returns-in-Ok g c = becomes g.D.Dir.cells c.args.generation c.args.forced c.args.replica c.take_apart-parts.result c.requires c.take_apart-parts.ensures.same c.primary_of.result c.in-Ok.infos c.in-Ok.ensures c.primary_of.ensures.whole c.primary_of.ensures.opened
    c.take_apart-parts.ensures.node c.take_apart-parts.ensures.names c.take_apart-parts.ensures.sourced c.take_apart-parts.ensures.appears
