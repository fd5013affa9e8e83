use Rattle.std.proofs.Common.{◌∙◌}
use Rattle.cluster_nodes.proofs.Slots.{place_read}
use Rattle.node_merges.proofs.CopySteps.{step_there, gone_primary, gone_down}
use Rattle.node_merges.proofs.copies.step_in.Goals as goal

pub returns-in-Replica : goal.returns-in-Replica
returns-in-Replica g c = step_there c.step_of.result c.args.seg.0 c.args.job _ c.in-Some.place c.in-Replica.replica (place_read c.args.places.now.items c.args.n.0 c.index.result.now _ c.requires c.index.ensures ∙ c.in-Some.is) c.in-Replica.is c.step_of.ensures

pub returns-in-Primary : goal.returns-in-Primary
returns-in-Primary g c = gone_primary c.args.seg.0 c.args.job _ c.in-Some.place _ (place_read c.args.places.now.items c.args.n.0 c.index.result.now _ c.requires c.index.ensures ∙ c.in-Some.is) c.in-Primary.is

pub returns-in-Down : goal.returns-in-Down
returns-in-Down g c = gone_down c.args.seg.0 c.args.job _ c.in-Some.place _ (place_read c.args.places.now.items c.args.n.0 c.index.result.now _ c.requires c.index.ensures ∙ c.in-Some.is) c.in-Down.is
