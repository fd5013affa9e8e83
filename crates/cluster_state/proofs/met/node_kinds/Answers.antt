use Rattle.std.proofs.Common.{◌∙◌, sym, ap}
use Rattle.cluster_nodes.proofs.Slots.{place_read}
use Rattle.cluster_state.specs.Met.{met_in}
use Rattle.cluster_state.proofs.met.node_kinds.Goals as goal

pub returns : goal.returns
returns g c = c.kinds_at.ensures ∙ ap (met_in g.D.FaultDir.planned) (sym (place_read c.args.places.now.items c.args.n.0 c.index.result.now _ c.requires c.index.ensures))
